use Rattle.std.proofs.Common.{Err, ap, inl, inr, refl}
use Rattle.kd_curator.specs.Program.{NoMemory, OtherWords, Shown}
use Rattle.kd_curator.proofs.OutputFiles.{no_line_among}
use Rattle.kd_curator.proofs.Runs.{device_so, only_device, stopped_so, told_so}
use Rattle.kd_curator.proofs.program.answer_other_words.Goals as goal

pub returns-in-Asked-clause-carried : goal.returns-in-Asked-clause-carried
returns-in-Asked-clause-carried g c = λ l words known errors alone none.
    let asked = rw c.in-Asked.is at none in
    Shown c.as_str.result.now asked.0 asked.1 asked.2 refl
    (told_so _ _ _ c.show.ensures.written c.of_answer.ensures) alone

pub returns-in-Asked-clause-why : goal.returns-in-Asked-clause-why
returns-in-Asked-clause-why g c = λ words none.
    let asked = rw c.in-Asked.is at none in (refl, inl (no_line_among words asked.0 asked.1))

pub returns-in-Asked-clause-untouched : goal.returns-in-Asked-clause-untouched
returns-in-Asked-clause-untouched g c =
    λ stopped. stopped_so _ _ c.of_answer.ensures (only_device _ c.show.ensures.written.device) stopped

pub returns-in-Asked-clause-failed : goal.returns-in-Asked-clause-failed
returns-in-Asked-clause-failed g c = device_so _ _ _ _ c.of_answer.ensures c.show.ensures.failed

pub returns-in-Usage-clause-carried : goal.returns-in-Usage-clause-carried
returns-in-Usage-clause-carried g c = λ l words known errors alone none.
    let other = rw c.in-Usage.is at none in OtherWords other.0 other.1 refl refl alone

pub returns-in-Usage-clause-why : goal.returns-in-Usage-clause-why
returns-in-Usage-clause-why g c = λ words none.
    let other = rw c.in-Usage.is at none in (refl, inl other.0)

pub returns-in-NoMemory-clause-carried : goal.returns-in-NoMemory-clause-carried
returns-in-NoMemory-clause-carried g c =
    λ l words known errors alone none. NoMemory refl (ap Err c.from.ensures) alone

pub returns-in-NoMemory-clause-why : goal.returns-in-NoMemory-clause-why
returns-in-NoMemory-clause-why g c = λ words none. (refl, inr (ap Err c.from.ensures))
