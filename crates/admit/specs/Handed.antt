-- An admission as the code gives it: the sign's content, or the refusal and what was read of the sign file.
use Rattle.std.specs.Prelude.{Result, Ok, Err}
use Rattle.sign.specs.Sign.{Sign}
use Rattle.sign.specs.Given.{content_of, given as table_of}
use Rattle.sign.specs.declared.SignFile.{SignFile}
use Rattle.admit.specs.Admission.{Admission, denied, admitted}
use Rattle.admit.specs.declared.Denied.{Denied}

abbrev pub handed : Admission → Sign → Result SignFile Denied
handed (denied r) s = Err (record { refusal = r; sign = table_of s })
handed (admitted c fs) s = Ok (content_of c fs)
