use denote.Text.{Utf8}
use denote.Shadow.{shadow}
use Rattle.kd_curator_command.proofs.clap_words.push_sentences.Given as goal

abbrev pub invariant-loop-sentence : goal.invariant-loop-sentence
invariant-loop-sentence l = shadow (Utf8 l.rest)
