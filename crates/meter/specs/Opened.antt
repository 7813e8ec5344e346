-- What was read of a sign file that is accepted.
use Rattle.std.specs.Prelude.{ℕ, ◌≡◌, List, Ok}
use Rattle.sign.specs.Sign.{sign_file}
use Rattle.sign.specs.Given.{given}
use Rattle.sign.specs.declared.SignFile.{SignFile}

-- the table was read from the file, which is accepted
abbrev pub AcceptedTable : List ℕ → SignFile → Type 0
AcceptedTable file t = Ok t ≡ given (sign_file file)
