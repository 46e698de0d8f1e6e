use Rattle.kd_form.proofs.Headings.{AreSpelled}
use Rattle.kd_form.proofs.receiving.heading_reader.read_few_letters.Given as goal

abbrev pub invariant-loop-byte : goal.invariant-loop-byte
invariant-loop-byte l = AreSpelled l.word l.byte-index l.letters.items
