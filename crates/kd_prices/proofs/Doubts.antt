-- A card that proves itself has no doubt, and a card has at most one.
use Rattle.kd_prices.proofs.{Found.{are_numbered, belong, one_expansion}, Leading.{leads_on, needed_at}}
use Rattle.kd_prices.proofs.Prelude.{AreSettingsNeeded, HasOneAnswer-Demands, HasOneAnswer-Finds, HasOneAnswer-ThenNext}
use Rattle.kd_prices.proofs.Prelude.{Day, Err, List, Why, [], ap, arith, refl, subst, sym, ℕ, ◌++◌, ◌↔◌, ◌∙◌, ◌∷◌, ◌≡◌}
use Rattle.kd_prices.proofs.Prelude.{Doubt, GoesOn, IfErr, IllegalAt, Leads, Parts, Proves, Result, Setting}
use Rattle.kd_prices.proofs.Prelude.{HasOneAnswer, IsCheckedAnswer, IsFirstNeedless, IsFirstWithout, IsNeededAnswer, Ok}
use Rattle.kd_prices.proofs.Prelude.{IsOk, NeedlessLine, PriceParts, ThenNext-Ok, cases_order, cost_table, leads_unique}
use Rattle.{kd_prices.specs.Doubt.{IsCarriedAnswer, IsDoubt, IsFitsAnswer}, kd_state.specs.Setting.IsFirstIllegal}

-- A list has only one good prefix that, with the item after it, begins no good list.
one_front : {X : Type 0} (Good : List X → Type 0) (front other after behind : List X) (x y : X)
    → front ++ x ∷ after ≡ other ++ y ∷ behind → Good front → Good other
    → ((rest : List X) → ¬ (Good (front ++ x ∷ rest))) → ((rest : List X) → ¬ (Good (other ++ y ∷ rest)))
    → (front ≡ other) × (x ≡ y)
one_front Good [] [] after behind x y e good fine bad worse = (refl, cc)
one_front Good [] (z ∷ other) after behind x y e good fine bad worse = grind (arith, bad other)
one_front Good (z ∷ front) [] after behind x y e good fine bad worse = grind (arith, worse front)
one_front {X = X} Good (z ∷ front) (w ∷ other) after behind x y e good fine bad worse =
    let same : w ≡ z = cc in
    let tails = one_front (λ xs. Good (z ∷ xs)) front other after behind x y (cc) good
    (subst (λ v. Good (v ∷ other)) same fine) bad
    (subst (λ (v : X). (rest : List X) → ¬ (Good (v ∷ (other ++ y ∷ rest)))) same worse) in
    (cc, tails.1)

IsFirstWithout-one : (Holds : ℕ → ℕ → Type 0) (number row column i j : ℕ) → IsFirstWithout Holds number row column
    → IsFirstWithout Holds number i j → (row ≡ i) × (column ≡ j)
IsFirstWithout-one Holds number row column i j h k = grind (arith, cases_order, h.here, k.before, k.here, h.before)

-- ---- prices by number

-- If the machine refuses a setting of a list, no list that begins with the settings up to this one leads to a machine.
IsFirstIllegal-not_Leads : {m : Parts} {settings : List Setting} {line : ℕ} {why : Why}
    (h : IsFirstIllegal m settings line why) (n : Parts) (rest : List Setting)
    → ¬ (Leads m (h.front ++ h.setting ∷ rest) n)
IsFirstIllegal-not_Leads {m} h n rest leads = grind (arith, leads_on, h.leads, h.refused)

-- If a setting of a list isn't needed, this holds in each list that begins with the settings up to this one.
IsFirstNeedless-not_needed : {m : Parts} {s : Day} {settings : List Setting} {line : ℕ}
    (h : IsFirstNeedless m s settings line) (rest : List Setting)
    → ¬ (AreSettingsNeeded m s (h.front ++ h.setting ∷ rest))
IsFirstNeedless-not_needed {m} {s} h rest needed =
    h.needless (needed_at m h.between s h.front rest h.setting h.leads needed)

module _ (m : Parts) (settings : List Setting) where
  only_carried : HasOneAnswer (IsCarriedAnswer m settings)
  only_carried (Ok n) (Ok o) a b = ap Ok (leads_unique m n o settings a b)
  only_carried (Ok n) (Err (IllegalAt line why)) a b =
      absurd (IsFirstIllegal-not_Leads b n b.rest (subst (λ xs. Leads m xs n) b.split a))
  only_carried (Err (IllegalAt line why)) (Ok n) a b =
      absurd (IsFirstIllegal-not_Leads a n a.rest (subst (λ xs. Leads m xs n) a.split b))
  only_carried (Err (IllegalAt line why)) (Err (IllegalAt other reason)) a b =
      let same =
      one_front (λ xs. (n : Parts) × Leads m xs n) a.front b.front a.rest b.rest a.setting b.setting
      (sym a.split ∙ b.split) (a.between, a.leads) (b.between, b.leads)
      (λ rest leads. IsFirstIllegal-not_Leads a leads.0 rest leads.1)
      (λ rest leads. IsFirstIllegal-not_Leads b leads.0 rest leads.1) in
      let between = leads_unique m a.between b.between b.front
      (subst (λ front. Leads m front a.between) same.0 a.leads) b.leads in
      grind (arith, a.refused, b.refused, a.number, b.number)
  only_carried v w a b = absurd (assumption)

module _ (costs : List (List ℕ)) (prices : PriceParts) where
  only_fits : HasOneAnswer (IsFitsAnswer costs prices)
  only_fits = grind (arith, IsFirstWithout-one)

module _ (m : Parts) (s : Day) (settings : List Setting) where
  only_needed : HasOneAnswer (IsNeededAnswer m s settings)
  only_needed (Ok x) (Ok y) a b = refl
  only_needed (Ok x) (Err (NeedlessLine line)) a b = absurd
      (IsFirstNeedless-not_needed b b.rest (subst (AreSettingsNeeded m s) b.split a))
  only_needed (Err (NeedlessLine line)) (Ok y) a b = absurd
      (IsFirstNeedless-not_needed a a.rest (subst (AreSettingsNeeded m s) a.split b))
  only_needed (Err (NeedlessLine line)) (Err (NeedlessLine other)) a b =
      let same =
      one_front (AreSettingsNeeded m s) a.front b.front a.rest b.rest a.setting b.setting
      (sym a.split ∙ b.split) a.needed b.needed
      (IsFirstNeedless-not_needed a) (IsFirstNeedless-not_needed b) in
      grind (arith, a.number, b.number)
  only_needed v w a b = absurd (assumption)

-- ---- the whole check

module _ (m : Parts) (s : Day) (settings : List Setting) (prices : PriceParts) where
  pub only_checked : HasOneAnswer (IsCheckedAnswer m s settings prices)
  only_checked =
      HasOneAnswer-ThenNext (HasOneAnswer-Demands _ _)
      (λ same model. HasOneAnswer-ThenNext (HasOneAnswer-Demands _ _)
      (λ same belong. HasOneAnswer-ThenNext (HasOneAnswer-Finds _ (one_expansion m s prices))
      (λ numbered expands. HasOneAnswer-ThenNext (only_carried m settings)
      (λ n leads. HasOneAnswer-ThenNext (HasOneAnswer-Demands _ _)
      (λ reads same. HasOneAnswer-ThenNext (only_fits (cost_table m s) numbered)
      (λ fits are. HasOneAnswer-ThenNext (HasOneAnswer-Demands _ _) (λ sum is. only_needed m s settings)))))))

  pub proving_says : Proves m s settings prices → IsCheckedAnswer m s settings prices (Ok tt)
  proving_says h =
      let by = h.proves in
      GoesOn tt by.model (GoesOn tt (belong m s prices h.numbered h.expands by.kind) (GoesOn h.numbered h.expands
      (GoesOn by.leads.0 by.leads.1 (GoesOn tt by.leads.2 (GoesOn tt by.fits (GoesOn tt by.sum by.needed))))))

  -- The result of the check is `Ok` exactly if the card proves itself.
  pub told : (answer : Result (Unit {0}) Doubt) → IsCheckedAnswer m s settings prices answer
      → IsOk answer ↔ Proves m s settings prices
  told (Ok x) says = (λ ok. grind (arith, ThenNext-Ok, are_numbered), λ proves. refl)
  told (Err doubt) says = (
    λ ok. absurd (cc),
    λ proves. absurd (let same = only_checked (Err doubt) (Ok tt) says (proving_says proves) in cc),
  )

  pub doubted : (answer : Result (Unit {0}) Doubt) → IsCheckedAnswer m s settings prices answer
      → IfErr answer (IsDoubt m s settings prices)
  doubted (Ok x) says = tt
  doubted (Err doubt) says = says
