use Rattle.kd_form.proofs.OrderSteps.{common_steps, part_more, size_some, [], ◌≡◌, ◌≤◌, ◌<◌, ◌-◌, ◌*◌, ◌+◌, ◌++◌, ◌∷◌}
use Rattle.kd_form.proofs.OrderSteps.{ℕ, inl, inr, ap, ◌∙◌, arith, cases_lt, drop, drop_at, length, length-append}
use Rattle.kd_form.proofs.OrderSteps.{length-drop, length-take, le_of_mul-le-mul_left, part_size, take_all, take_at}
use Rattle.kd_form.proofs.sending.part_writer.PartWriter.take_letter.Goals as goal

-- the letter belongs to the next part, so the full part is written
pub returns-then-from-keys : goal.returns-then-from-keys
returns-then-from-keys c letters sent is =
    let (k, found, made) = c.write_part.ensures.made in
    let s = c.args.day.now in
    let keys = c.args.keys.now in
    let letter : ℕ = c.args.letter in
    let w = c.args.self.now in
    let size : ℕ = part_size s in
    let large : 0 < size = size_some s in
    let behind : length (drop (size * w.written) letters) ≡ length letters - size * w.written =
    length-drop (size * w.written) letters in
    let full : size ≤ length w.letters.items =
    omega (arith, c.if-len-part_size.false, c.len.ensures.value, c.part_size.ensures.value) in
    let another : w.written + 1 < length keys = omega (arith, c.if-from-keys.true, c.from.ensures) in
    let enough : size * w.written + size ≤ length letters =
    omega (arith, ap length is.kept, length-take size (drop (size * w.written) letters), behind, full, large) in
    let whole : length letters ≡ size * w.written + size = elim (cases_lt (size * (w.written + 1)) (length letters)) [
      | inl more ↦ absurd (omega (arith, is.written.most (w.written + 1) another more))
      | inr few ↦ omega (arith, few, enough)
    ] in
    let number = c.write_part.ensures.written in
    let up_to : length letters ≡ size * (w.written + 1) = omega (arith, whole) in
    let longer : length (letters ++ letter ∷ []) ≡ length letters + 1 = length-append letters (letter ∷ []) in
    record {
      suited = is.suited;
      counted = omega (arith, c.write_part.ensures.count, is.counted, longer);
      written = grind (arith, le_of_mul-le-mul_left, number, whole, longer, another);
      kept = rw number (c.push-then-from-keys.ensures.items ∙ ap (λ l. l ++ letter ∷ []) c.write_part.ensures.letters
          ∙ cc (take_all size (letter ∷ []) (omega arith), drop_at letters (letter ∷ []) _ up_to));
      made = rw (number, take_at letters (letter ∷ []) (size * (w.written + 1)) up_to)
          (part_more is found made (omega (arith, whole, large)) (omega (arith, whole)));
    }

pub returns-else-from-keys : goal.returns-else-from-keys
returns-else-from-keys c = grind (arith, common_steps)

pub returns-then-len-part_size : goal.returns-then-len-part_size
returns-then-len-part_size c = grind (arith, common_steps)
