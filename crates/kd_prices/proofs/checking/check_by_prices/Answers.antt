use Rattle.kd_prices.proofs.Prelude.{GoesOn, List, SFits, arith, price_sum, table_size, to_z-of_z, to_z_pos}
use Rattle.kd_prices.proofs.Prelude.{HasFault, ListsFitAt, NotTheSheet, PriceParts, PricesFitAt, SumDiffers, false≢true}
use Rattle.kd_prices.proofs.Prelude.{IsFirstWithout, PriceTooHigh, ap, day_prices, err_from_is_err_and, priced_count}
use Rattle.kd_prices.proofs.Prelude.{machine_prices, of_z, pos, refl, rules, sym, to_z, w32, ℕ, ℤ, ◌+◌, ◌<◌, ◌^◌, ◌∙◌, ◌≡◌, ◌≢◌}
use Rattle.kd_prices.proofs.checking.check_by_prices.Goals as goal

pub returns-in_err-carried : goal.returns-in_err-carried
returns-in_err-carried g c = rw c.in_ok-rows.was (λ prices row column many.
    let is =
    err_from_is_err_and c.from_residual-in_err-carried.result c.from_residual-in_err-carried.ensures.1 in
    rw (is.1, is.2) (HasFault _ c.in_err-carried.ensures.refused refl))

pub returns-then-not-reads_as : goal.returns-then-not-reads_as
returns-then-not-reads_as g c = rw c.in_ok-rows.was (λ prices row column many.
    GoesOn c.in_ok-carried.carried.reached c.in_ok-carried.ensures.leads
    (HasFault NotTheSheet ((λ same reads. false≢true (sym c.if-not-reads_as.true ∙ c.reads_as.ensures.1 reads)), refl)
    refl))

too_high : (prices : PriceParts) (costs : List (List ℕ)) (rows columns : List ℤ) (n i j : ℕ) → table_size prices ≡ n
    → machine_prices prices ≡ rows → day_prices prices ≡ columns → IsFirstWithout (ListsFitAt costs rows columns) n i j
    → IsFirstWithout (PricesFitAt costs prices) (table_size prices) i j
too_high prices costs rows columns n i j many row column first = grind (arith, first.here, first.before)

pub returns-in-Some : goal.returns-in-Some
returns-in-Some g c = rw c.in_ok-rows.was (λ prices row column many.
    GoesOn c.in_ok-carried.carried.reached c.in_ok-carried.ensures.leads
    (GoesOn tt (c.reads_as.ensures.0 c.if-not-reads_as.false)
    (HasFault (PriceTooHigh (c.in-Some.row + 1) (c.in-Some.column + 1)) (
      c.in-Some.row,
      c.in-Some.column,
      refl,
      refl,
      too_high prices _ _ _ _ _ _ many row column (rw c.requires.costs at c.in-Some.ensures),
    ) refl)))

-- A sum and a count that are equal in 32 bits are equal.
same_sum : (sum : ℤ) (count : ℕ) → SFits w32 sum → count < 2 ^ 31 → of_z w32 sum ≡ count → sum ≡ pos count
same_sum sum count small few e = sym (to_z-of_z w32 sum small) ∙ ap (to_z w32) e ∙ to_z_pos w32 count few

pub returns-then-sum_of_prices-priced_count : goal.returns-then-sum_of_prices-priced_count
returns-then-sum_of_prices-priced_count g c = rw c.in_ok-rows.was (λ prices row column many.
    let is : c.sum_of_prices.result ≡ price_sum prices = rw (row, column) c.sum_of_prices.ensures in
    let differs : price_sum prices ≢ pos (priced_count c.args.settings.now) = search rules in
    GoesOn c.in_ok-carried.carried.reached c.in_ok-carried.ensures.leads
    (GoesOn tt (c.reads_as.ensures.0 c.if-not-reads_as.false)
    (GoesOn tt (rw (row, column, many) (rw c.requires.costs at c.in_default.ensures))
    (HasFault SumDiffers ((λ same sum. differs sum), refl) refl))))

pub returns : goal.returns
returns g c = rw c.in_ok-rows.was (λ prices row column many.
    let few : c.priced_count.result < 2 ^ 31 = omega (arith, c.priced_count.ensures.few, c.requires.few) in
    let same =
    same_sum c.sum_of_prices.result c.priced_count.result (search rules) few c.if-sum_of_prices-priced_count.false in
    let is : c.sum_of_prices.result ≡ price_sum prices = rw (row, column) c.sum_of_prices.ensures in
    GoesOn c.in_ok-carried.carried.reached c.in_ok-carried.ensures.leads
    (GoesOn tt (c.reads_as.ensures.0 c.if-not-reads_as.false)
    (GoesOn tt (rw (row, column, many) (rw c.requires.costs at c.in_default.ensures))
    (GoesOn tt (sym is ∙ same ∙ ap pos c.priced_count.ensures.value) c.in_ok-carried.ensures.needed))))
