use Rattle.kd_form.proofs.OrderSteps.{goes_on, head_open, head_next, no_next, one_more, text_head, ◌≡◌, ℕ, List, []}
use Rattle.kd_form.proofs.OrderSteps.{◌∷◌, ◌++◌, ◌+◌, ◌≤◌, refl, inr, inl, ap, append-nil, length, length-append, arith}
use Rattle.kd_form.proofs.OrderSteps.{codes, BeginsWithKeys-append}
use Rattle.kd_form.proofs.sending.order_head.HeadReader.take.Goals as goal

-- the line of keys is complete
pub returns-in-Ok-Some : goal.returns-in-Ok-Some
returns-in-Ok-Some c order is =
    let (are, keyed, room) = rw c.in-Ok-Some.field-0-is at c.in-Ok-Some.ensures in
    let ended = rw (c.as_slice.ensures.value, c.push.ensures.items) at keyed in
    rw (c.push-in-Ok-Some.ensures.items, c.clear.ensures) (record {
      lines = one_more is (λ rest. rest ≡ []) _ (c.args.byte ∷ []) [] are ended refl;
      few = grind (arith, length-append, rw c.len.ensures.value at room);
      begins = (codes "TEXT\n", (λ none. cc), inr (inl refl));
    })

-- the line TEXT is complete
pub returns-in-Ok-None : goal.returns-in-Ok-None
returns-in-Ok-None c = grind (arith, append-nil, text_head)

-- no head goes on with the byte
pub returns-in-Err-Mismatch : goal.returns-in-Err-Mismatch
returns-in-Err-Mismatch c order is =
    let off = rw (c.len.ensures.value, c.as_slice.ensures.value, c.push.ensures.items) at c.in-Err-Mismatch.ensures in
    record {
      before = order;
      rest = c.args.byte ∷ [];
      joined = refl;
      size = length-append order (c.args.byte ∷ []);
      begins = goes_on is;
      stops = λ found next other same (others, head).
          let all : List ℕ = order ++ found ∷ other in
          let whole : order ++ c.args.byte ∷ other ≡ all ++ [] = cc (same, append-nil all) in
          let keys = c.args.self.now.keys.items in
          let (after, rest, last, are, mine, ended, alike) =
          BeginsWithKeys-append _ keys others order all (c.args.byte ∷ other) [] is.lines head.lines whole in
          let few : length keys + length after ≤ 99 =
          omega (arith, head.few, ap length are, length-append keys after) in
          let (one, left, next, split) = head_next _ (length keys) after last few ended in
          no_next _ _ _ other one left c.args.byte is.begins (rw c.in-Err-Mismatch.field-0-is at off) next
          (cc (mine, alike, split, append-nil last));
    }

-- the line isn't complete yet
pub returns-in-Err-Incomplete : goal.returns-in-Err-Incomplete
returns-in-Err-Incomplete c = grind (arith, head_open)
