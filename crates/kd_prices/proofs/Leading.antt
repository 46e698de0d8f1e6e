-- Lists of settings that lead from one machine to another, split and joined.
use Rattle.kd_card.{proofs.Months.Shortest.Falling.model_of-changed, specs.Proving.is_priced_setting}
use Rattle.kd_card.proofs.Months.Shortest.{needed_then}
use Rattle.kd_state.proofs.Carrying.{carries_unique}
use Rattle.kd_prices.proofs.Prelude.{AreSettingsNeeded, IsSettingNeeded, proving_cards_are_shortest, take-append-drop}
use Rattle.kd_prices.proofs.Prelude.{Day, Err, Ok, [], drop, sym, take, ℕ, ◌++◌, ◌+◌, ◌<◌, ◌∙◌, ◌∷◌, ◌≡◌, Doubt, Leads}
use Rattle.kd_prices.proofs.Prelude.{List, Parts, Setting, arith, get_or, length, subst, take_more, IsNeededAnswer}
use Rattle.kd_prices.proofs.Prelude.{NeedlessLine, RestIsShortest, Result, length-append}
use Rattle.kd_prices.proofs.Prelude.{day_model, leads_join, leads_next, length-drop, length-take, model_of}
use Rattle.kd_state.specs.{Costs.loose_count, Setting.Carries}
use Rattle.std.proofs.{Math.Seq.drop-cons, lemmas.List.length-take-le}
use Rattle.std.specs.{Prelude.{IsFalse, ◌↔◌}, Result.{MatchResult, result_and}}

-- If `front` leads from `m` to `between`, and `front` with `rest` leads to `n`, then `rest` leads from `between`
-- to `n`.
pub leads_on : (m between n : Parts) (front rest : List Setting) → Leads m front between → Leads m (front ++ rest) n
    → Leads between rest n
leads_on m between n [] rest first leads = subst (λ machine. Leads machine rest n) (sym first) leads
leads_on m between n (x ∷ front) rest first leads = grind (arith, leads_on leads.0 between n front rest)

-- If all settings of a list are needed, the setting after `front` is.
pub needed_at : (m between : Parts) (s : Day) (front rest : List Setting) (x : Setting) → Leads m front between
    → AreSettingsNeeded m s (front ++ x ∷ rest) → IsSettingNeeded between s x
needed_at m between s [] rest x leads needed = subst (λ machine. IsSettingNeeded machine s x) (sym leads) needed.2
needed_at m between s (y ∷ front) rest x leads needed =
    needed_at leads.0 between s front rest x leads.2 (needed_then m leads.0 s y (front ++ x ∷ rest) leads.1 needed)

-- If all settings of `front` are needed, and `x` is needed after them, then all settings of both are needed.
needed_join : (m n o : Parts) (s : Day) (front : List Setting) (x : Setting) → Leads m front n
    → AreSettingsNeeded m s front → Carries n x o → IsSettingNeeded n s x → AreSettingsNeeded m s (front ++ x ∷ [])
needed_join m n o s [] x leads needed carries here =
    subst (λ machine. AreSettingsNeeded machine s (x ∷ [])) leads (o, carries, here, tt)
needed_join m n o s (y ∷ front) x leads needed carries here = (
  leads.0,
  leads.1,
  needed.2,
  needed_join leads.0 n o s front x leads.2 (needed_then m leads.0 s y front leads.1 needed) carries here,
)

-- If the machine carries the setting out, whether the setting is needed depends on the loose things alone.
needed_by_count : (n o : Parts) (s : Day) (x : Setting) → Carries n x o
    → (IsFalse (is_priced_setting x) → loose_count n s ≡ loose_count o s + 1) ↔ IsSettingNeeded n s x
needed_by_count n o s x carries = (
  λ one unpriced. (o, carries, one unpriced),
  λ needed unpriced. let (made, made_so, one) = needed unpriced in
      subst (λ k. loose_count n s ≡ loose_count k s + 1) (carries_unique n made o x made_so carries) one,
)

-- an answer to one question is an answer to an equivalent one
same_answer : (P Q : Type 0) (number : ℕ) (here : Result (Unit {0}) Doubt) → P ↔ Q
    → MatchResult here (λ _. P) (λ doubt. (doubt ≡ NeedlessLine number) × ¬ P)
    → MatchResult here (λ _. Q) (λ doubt. (doubt ≡ NeedlessLine number) × ¬ Q)
same_answer P Q number (Ok one) both tells = both.0 tells
same_answer P Q number (Err doubt) both tells = (tells.0, λ q. tells.1 (both.1 q))

-- The settings before `place` have been carried out. `needed` is `Ok` if all of them were needed, and otherwise has
-- the first one that wasn't.
pub record IsCarriedUpTo (m n : Parts) (s : Day) (xs : List Setting) (place loose : ℕ)
    (needed : Result (Unit {0}) Doubt) : Type 0 where
  pub leads : Leads m (take place xs) n
  pub model : model_of n ≡ day_model s
  pub loose_is : loose ≡ loose_count n s
  pub need_is : MatchResult needed (λ _. AreSettingsNeeded m s (take place xs))
      (λ doubt. IsNeededAnswer m s xs (Err doubt))

module _ (m n o : Parts) (s : Day) (xs : List Setting) (place : ℕ) (x : Setting) (inside : place < length xs)
    (is : get_or xs place x ≡ x) (leads : Leads m (take place xs) n) (carries : Carries n x o) where
  need_result-next : (needed here : Result (Unit {0}) Doubt)
      → MatchResult needed (λ _. AreSettingsNeeded m s (take place xs)) (λ doubt. IsNeededAnswer m s xs (Err doubt))
      → MatchResult here (λ _. IsSettingNeeded n s x)
      (λ doubt. (doubt ≡ NeedlessLine (place + 1)) × ¬ (IsSettingNeeded n s x))
      → MatchResult (result_and needed here) (λ _. AreSettingsNeeded m s (take (place + 1) xs))
      (λ doubt. IsNeededAnswer m s xs (Err doubt))
  need_result-next (Err doubt) here so_far tells = so_far
  need_result-next (Ok all) (Ok one) so_far tells =
      grind (arith, take_more xs place x inside, inside, needed_join m n o s (take place xs) x leads so_far carries tells)
  need_result-next (Ok all) (Err doubt) so_far tells =
      grind (
        arith,
        take-append-drop place xs,
        drop-cons xs place x inside,
        inside,
        length-take-le place xs (omega arith),
      )

-- One more setting is carried out.
pub IsCarriedUpTo-next : {m n o : Parts} {s : Day} {xs : List Setting} {place loose left : ℕ}
    {needed : Result (Unit {0}) Doubt} (x : Setting) (here : Result (Unit {0}) Doubt)
    → place < length xs → get_or xs place x ≡ x → IsCarriedUpTo m n s xs place loose needed
    → Carries n x o → left ≡ loose_count o s
    → MatchResult here (λ _. IsFalse (is_priced_setting x) → loose ≡ left + 1)
    (λ doubt. (doubt ≡ NeedlessLine (place + 1)) × ¬ (IsFalse (is_priced_setting x) → loose ≡ left + 1))
    → IsCarriedUpTo m o s xs (place + 1) left (result_and needed here)
IsCarriedUpTo-next {m} {n} {o} {s} {xs} {place} {needed} x here inside is carried carries left tells = record {
  leads = leads_next m n o xs place x inside is carried.leads carries;
  model = model_of-changed n x o carries ∙ carried.model;
  loose_is = left;
  need_is = need_result-next m n o s xs place x inside is carried.leads carries needed here carried.need_is
      (same_answer _ _ (place + 1) here (needed_by_count n o s x carries) (rw (← carried.loose_is, ← left) tells));
}

-- After its first lines, the rest of a card that proves itself is a shortest list.
pub rest_is_shortest : RestIsShortest
rest_is_shortest m between s settings prices lines machine legal are_prices proves within leads =
    let whole = proves.proves.leads in
    record {
      leads = (
        whole.0,
        leads_on m between whole.0 (take lines settings) (drop lines settings) leads
            (subst (λ xs. Leads m xs whole.0) (sym (take-append-drop lines settings)) whole.1),
        whole.2,
      );
      shortest = λ others reached.
          let longer = proving_cards_are_shortest m s settings prices machine legal are_prices proves
          (take lines settings ++ others)
          (reached.0, leads_join m between reached.0 (take lines settings) others leads reached.1, reached.2) in
          omega (
            arith,
            longer,
            length-append (take lines settings) others,
            length-take lines settings,
            length-drop lines settings,
          );
      count = length-drop lines settings;
    }
