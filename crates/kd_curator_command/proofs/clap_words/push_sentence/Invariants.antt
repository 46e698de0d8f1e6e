use denote.Text.{Utf8}
use denote.Shadow.{shadow}
use Rattle.kd_curator_command.proofs.clap_words.push_sentence.Given as goal

abbrev pub invariant-loop-english : goal.invariant-loop-english
invariant-loop-english l =
    (goal.iterator-loop-english).can_next l.english-iterator ×
    (goal.iterator-loop-english).is_finite l.english-iterator ×
    shadow (Utf8 l.rest)
