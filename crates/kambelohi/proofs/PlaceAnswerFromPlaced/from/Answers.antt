use Rattle.std.specs.Prelude.{◌≡◌, ℕ, refl}
use Rattle.layout.specs.declared.Answer.{Answer}
use Rattle.layout.specs.declared.Answer.TheVariants.{On, Off, End, Refused}
use Rattle.kambelohi.specs.declared.ListAnswer.{ListAnswer}
use Rattle.kambelohi.specs.declared.PlaceAnswer.{PlaceAnswer}
use Rattle.kambelohi.specs.Exports.{list_answer, place_by}
use Rattle.kambelohi.proofs.PlaceAnswerFromPlaced.from.Goals as goal

-- the listing's answer with two counts
with : ListAnswer → ℕ → ℕ → PlaceAnswer
with a j k =
    record {
      kind = a.kind;
      number = a.number;
      duration = a.duration;
      count = a.count;
      start = a.start;
      length = a.length;
      detail = a.detail;
      looked = j;
      spans = k;
    }

with_is : (a : Answer) (j k : ℕ) → with (list_answer a) j k ≡ place_by a j k
unfolding with
with_is (On d n) j k = refl
with_is (Off d) j k = refl
with_is (End n) j k = refl
with_is (Refused f) j k = refl

pub returns : goal.returns
unfolding with
returns c = rw c.from-a.ensures (with_is c.args.p.answer c.args.p.looked c.args.p.spans)
