-- Document 01's numbers for the ways in which a part of a message fails: "5 for unknown tags, 6 for parameters and 7".
use Rattle.std.specs.Prelude.{ℕ}
use Rattle.value.specs.declared.SyntaxError.{SyntaxError}
use Rattle.value.specs.declared.SyntaxError.TheVariants.{UnsupportedTag, UnsupportedTagValue, Other}

-- 5, "no known tag"; 6, "a bad parameter"; "Text holds code points 1 to 255 (Latin-1)", else 7
abbrev pub number_of : SyntaxError → ℕ
number_of UnsupportedTag = 5
number_of UnsupportedTagValue = 6
number_of Other = 7
