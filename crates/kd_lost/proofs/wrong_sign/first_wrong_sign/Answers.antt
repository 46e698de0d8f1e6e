use Rattle.std.proofs.Common.{◌+◌, ◌==◌, IsFalse, IsTrue, arith, drop, is_some, refl, slice_index_or, take}
use Rattle.kd_lost.specs.Lost.{received_letter}
use Rattle.kd_lost.specs.DamagedPart.{is_body_byte}
use Rattle.kd_lost.proofs.WrongSigns.{few_letters, few_lines, parted, read_further}
use Rattle.kd_lost.proofs.wrong_sign.first_wrong_sign.Goals as goal

pub returns-then-not-is_body_byte : goal.returns-then-not-is_body_byte
returns-then-not-is_body_byte c =
    let body = c.args.body.now in
    let i = c.loop-index.index in
    let x = slice_index_or body i 0 in
    let wrong : IsFalse (is_body_byte x) = grind (arith, c.is_body_byte.ensures, c.if-not-is_body_byte.true) in
    record {
      front = take i body;
      rest = drop (i + 1) body;
      joined = parted body i x c.loop-index-test.true refl;
      before = c.loop-index.invariant.0;
      at_place = c.place_at-place.ensures;
      wrong = wrong;
    }

pub loop-index-preserved : goal.loop-index-preserved
loop-index-preserved c =
    let body = c.args.body.now in
    let i = c.loop-index.index in
    let x = slice_index_or body i 0 in
    let allowed : IsTrue (is_body_byte x) = grind (arith, c.is_body_byte.ensures, c.if-not-is_body_byte.false) in (
      read_further body i x c.loop-index.line c.loop-index.letter c.line_after-line.result c.letter_after-letter.result
          c.loop-index-test.true refl allowed c.line_after-line.ensures c.letter_after-letter.ensures
          c.loop-index.invariant.0,
      few_lines (x == 10) i c.loop-index.line _ c.loop-index.invariant.1 c.line_after-line.ensures,
      few_letters (x == 10) (is_some (received_letter x)) i c.loop-index.letter _ c.loop-index.invariant.2
          c.letter_after-letter.ensures,
    )
