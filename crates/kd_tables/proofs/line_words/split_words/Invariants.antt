use Rattle.kd_tables.proofs.LineWords.{AreTaken}
use Rattle.std.proofs.Common.{length, map}
use Rattle.kd_tables.proofs.line_words.split_words.Given as goal

abbrev pub invariant-loop-word : goal.invariant-loop-word
invariant-loop-word g l = AreTaken l.line l.rest (map (λ word. word.now) l.words.items)

abbrev pub decreases-loop-word : goal.decreases-loop-word
decreases-loop-word g l = length l.rest
