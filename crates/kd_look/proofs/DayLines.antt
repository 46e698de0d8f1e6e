-- Warnings of days, one after another.
use Rattle.std.proofs.Common.{◌≡◌, ℕ, List, [], ◌∷◌, ◌++◌, refl, subst, sym}
use Rattle.kd_language.specs.declared.language.Language.{Language}
use Rattle.kd_findings.specs.Texts.{IsInOneLine}
use Rattle.kd_findings.proofs.Appending.{ArePieces-more}
use Rattle.kd_look.specs.Warnings.{IsDayLine, WarnsOfDays, day_line}

-- no line is no warning
pub warns_of_none : (l : Language) (name text : List ℕ) → text ≡ [] → WarnsOfDays l name text
warns_of_none l name text none = record { words = []; are = none }

-- one more line
pub warns_of_more : (l : Language) (name words old new : List ℕ) → IsInOneLine words
    → new ≡ old ++ day_line l name words → WarnsOfDays l name old → WarnsOfDays l name new
warns_of_more l name words old new plain added before =
    subst (WarnsOfDays l name) (sym added) (record {
      words = before.words ++ words ∷ [];
      are = ArePieces-more (IsDayLine l name) before.words words old (day_line l name words) before.are
          (record { plain = plain; whole = refl });
    })
