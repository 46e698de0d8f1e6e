use Rattle.kd_prices.proofs.Prelude.{List, append_assoc, ap, arith, drop, get_or, length, pos, zip, ℕ, ℤ, ◌∙◌}
use Rattle.kd_prices.proofs.Prelude.{[], rules, to_z-of_z, w16, ◌++◌, ◌+◌, ◌<◌, ◌∷◌, ◌≡◌}
use Rattle.std.proofs.Common.{add-one, drop-cons}
use Rattle.kd_prices.proofs.kind_keys.with_prices.Goals as goal

one_more : {X : Type 0} (keys : List X) (prices : List ℤ) (pairs all : List (X × ℤ)) (place : ℕ) (key : X) (price : ℤ)
    → place < length keys → place < length prices → key ≡ get_or keys place key → price ≡ get_or prices place (pos 0)
    → pairs ++ zip (drop place keys) (drop place prices) ≡ all
    → (pairs ++ (key, price) ∷ []) ++ zip (drop (place + 1) keys) (drop (place + 1) prices) ≡ all
one_more keys prices pairs all place key price in_keys in_prices is cost so_far =
    let first = drop-cons keys place key in_keys in
    let first_price = drop-cons prices place (pos 0) in_prices in
    rw (append_assoc, add-one) (rw (first, first_price, ← is, ← cost) at so_far)

pub loop-place-preserved : goal.loop-place-preserved
loop-place-preserved g c =
    let at = c.loop-place in
    let key = c.index-keys-place in (
      c.push.ensures.len ∙ ap (λ n. n + 1) at.invariant.0,
      rw c.push.ensures.items
          (one_more c.args.keys.now c.args.prices.now at.pairs.items (zip c.args.keys.now c.args.prices.now)
          at.place key.result _ c.loop-place-test.true
          (omega arith) key.is (to_z-of_z w16 (get_or c.args.prices.now at.place (pos 0)) (search rules))
          at.invariant.1),
    )
