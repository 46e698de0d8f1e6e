-- If the first `number` cables suffice, settings that leave spare cables free name no other cable.
pub mod Sparing
unfoldable pub use Sparing.*

-- If all cables in use are among the first `first` cables, then the number of cables in use, plus the number of
-- spare ones among the first `first`, is `first`.
all_first : (cables : List Cable) (first : ℕ) → first ≤ length cables
    → ((k : ℕ) → first ≤ k → is_spare_at cables k ≡ true)
    → count_by is_spare (take first cables) + count_by (λ cable. not (is_spare cable)) cables ≡ first
all_first [] first few free = grind (arith, common_steps)
all_first (cable ∷ cables) zero few free =
    let rest = all_first cables zero (omega arith) (λ k low. free (suc k) (omega arith)) in
    simp sum_by-cons (grind (arith, nat_tests, free zero (omega arith)))
all_first (cable ∷ cables) (suc first) few free =
    let rest = all_first cables first (omega arith) (λ k low. free (suc k) (omega arith)) in
    simp sum_by-cons (grind (arith, nat_tests))

-- No letter is put into a cable above `number`.
put_within : (number : ℕ) (m : RotorParts) (s : RotorDay) → UsesNoneAbove number (Rotor m) → length s.pairs ≤ number
    → (cable letter : ℕ) → cable ≤ length m.cables → LeavesSpares m s (Put cable letter) → cable ≤ number
put_within number m s none few zero letter within h = omega arith
put_within number m s none few (suc place) letter within h =
    elim (cases_lt number (suc place)) [
      | inl above ↦
          let bound = h (none (suc place) above) in
          let spare = λ (k : ℕ) (low : place ≤ k). spare_at m (suc k) k refl (none (suc k) (omega arith)) in
          let fewer = all_first m.cables place (omega arith) spare in
          omega (arith, all_first m.cables (suc place) within (λ k low. spare k (omega arith)))
      | inr fits ↦ omega arith
    ]

-- A change of a cable whose number is at most `number` leaves the cables above `number` spare.
set_within : (number : ℕ) (m : RotorParts) (cable : ℕ) (ends : Cable) → UsesNoneAbove number (Rotor m) → cable ≤ number
    → 1 ≤ cable → UsesNoneAbove number (Rotor (record m { cables = set m.cables (cable - 1) ends }))
set_within number m cable ends none within first other above =
    subst (λ found. IfSome found (λ cable. IsTrue (is_spare cable)))
    (sym (numbered_other m.cables cable other ends first (λ e. omega (arith, within, above)))) (none other above)

-- The machine has as many cables as `start`, none of which is in use above `number`; or both are Converters M-209.
abbrev HasFewInUse : ℕ → Parts → Parts → Type 0
HasFewInUse number (Rotor start) (Rotor m) = (length m.cables ≡ length start.cables) × UsesNoneAbove number (Rotor m)
HasFewInUse number (Pin start) (Pin m) = Unit {0}
HasFewInUse number _ _ = ⊥

SparesStayFree-tail : (m : Parts) (s : Day) (x : Setting) (settings : List Setting) → SparesStayFree m s (x ∷ settings)
    → SparesStayFree m s settings
SparesStayFree-tail (Rotor m) (Rotor s) x settings free = λ cable letter there.
    free cable letter (suc there.0, omega (arith, there.1), there.2)
SparesStayFree-tail (Pin m) (Pin s) x settings free = tt
SparesStayFree-tail m s x settings free = absurd free

one_step : (number : ℕ) (start : Parts) (s : Day) (m : Parts) (x : Setting) (settings : List Setting)
    → UsesNoneAbove number start → HasPairsUpTo number s → HasFewInUse number start m
    → SparesStayFree start s (x ∷ settings) → (after : Parts) → Carries m x after
    → NamesNoneAbove number x × HasFewInUse number start after
one_step number (Rotor start) (Rotor s) (Rotor m) (Put cable letter) settings none few now free after carries =
    let p = was_put m cable letter after carries in
    let within = put_within number start s none few cable letter (omega (arith, p.there.last, now.0))
    (free cable letter (0, omega arith, refl)) in (
      within,
      subst (HasFewInUse number (Rotor start)) p.made
          (rw length-set now.0, set_within number m cable _ now.1 within p.there.first),
    )
one_step number (Rotor start) s (Rotor m) (Pull cable letter) settings none few now free after carries =
    let p = pulled m cable letter after carries in
    let has = p.has in
    let used : is_spare p.old ≡ false = grind (arith, has) in
    let within : cable ≤ number = elim (cases_lt number cable) [
      | inl above ↦ let spare = rw p.there.is at (now.1 cable above) in absurd (cc)
      | inr fits ↦ omega arith
    ] in (
      within,
      subst (HasFewInUse number (Rotor start)) p.made
          (rw length-set now.0, set_within number m cable _ now.1 within p.there.first),
    )
one_step number start s m x settings none few now free after carries = grind arith

module _ (number : ℕ) (start : Parts) (s : Day) (none : UsesNoneAbove number start) (few : HasPairsUpTo number s) where
  serve : (settings : List Setting) (m n : Parts) → HasFewInUse number start m → SparesStayFree start s settings
      → Leads m settings n → All (NamesNoneAbove number) settings × UsesNoneAbove number n
  serve [] m n now free leads =
      let unused : UsesNoneAbove number m = grind arith in (All-nil (NamesNoneAbove number), rw leads unused)
  serve (x ∷ settings) m n now free (between, carries, leads) =
      let one = one_step number start s m x settings none few now free between carries in
      let rest = serve settings between n one.1 (SparesStayFree-tail start s x settings free) leads in
      (All-cons (NamesNoneAbove number) x settings one.0 rest.0, rest.1)

pub few_cables_serve : FewCablesServe
few_cables_serve number m n s settings none few spares leads =
    serve number m s none few settings m n (grind arith) spares leads
