-- Parts of one message: each agrees with each later one.
use Rattle.std.proofs.Common.{◌≡◌, ◌∙◌, ◌⊎◌, inl, inr, zero, suc, ◌&&◌, Bool, true, List, [], ◌∷◌, ◌++◌}
use Rattle.std.proofs.Common.{arith, subst, sym, Some}
use Rattle.std.proofs.lemmas.Bool.{Decides.nat_tests, and_parts, cases_Bool}
use Rattle.std.specs.List.{Contains}
use Rattle.kd_lost.specs.declared.part.{DamagedPart.{DamagedPart}, PartNumbers.{PartNumbers}}
use Rattle.kd_lost.specs.Laws.{RepetitionsAgree}
use Rattle.kd_lost.specs.OneMessage.{agrees_with_each, are_of_one_message, bodies_agree, headings_agree, numbers_agree}
use Rattle.kd_lost.specs.OneMessage.{ends_within, frames_agree, parts_agree, texts_agree}

pub first_or_later : {X : Type 0} (one : X) (others : List X) (x : X) → Contains (one ∷ others) x
    → (one ≡ x) ⊎ Contains others x
first_or_later one others x (zero, inside, is) = inl is
first_or_later one others x (suc place, inside, is) = inr (place, omega (arith, inside), is)

pub contains_none : {X : Type 0} (x : X) → Contains [] x → ⊥
contains_none x (place, inside, is) = absurd (omega (arith, inside))

agree_with_it_cases : (one next part : DamagedPart) (parts : List DamagedPart) → parts_agree one next ≡ true
    → (next ≡ part) ⊎ Contains parts part → (Contains parts part → parts_agree one part ≡ true)
    → parts_agree one part ≡ true
agree_with_it_cases one next part parts agree (inl is) rest = subst (λ p. parts_agree one p ≡ true) is agree
agree_with_it_cases one next part parts agree (inr later) rest = rest later

pub agree_with_it : (one part : DamagedPart) (parts : List DamagedPart) → agrees_with_each one parts ≡ true
    → Contains parts part → parts_agree one part ≡ true
agree_with_it one part [] agree there = absurd (contains_none part there)
agree_with_it one part (next ∷ parts) agree there =
    let both = and_parts (parts_agree one next) (agrees_with_each one parts) agree in
    agree_with_it_cases one next part parts both.0 (first_or_later next parts part there)
    (λ later. agree_with_it one part parts both.1 later)

pub same_number_agree : (one other : PartNumbers) (agree : Bool) → one.part ≡ other.part
    → numbers_agree one other agree ≡ true → agree ≡ true
same_number_agree one other agree same is = grind (arith, nat_tests, cases_Bool, same, is)

later_parts : (before after : List DamagedPart) → are_of_one_message (before ++ after) ≡ true
    → are_of_one_message after ≡ true
later_parts [] after agree = agree
later_parts (one ∷ before) after agree =
    later_parts before after
    (and_parts (agrees_with_each one (before ++ after)) (are_of_one_message (before ++ after)) agree).1

pub repetitions_agree : RepetitionsAgree
repetitions_agree before after one other numbers again agree there is its same =
    let both = and_parts (agrees_with_each one after) (are_of_one_message after) (later_parts before (one ∷ after) agree) in
    let bodies = bodies_agree one.body.items other.body.items in
    let texts = texts_agree one.text other.text && (ends_within one other && (ends_within other one && frames_agree one other)) in
    let headings : headings_agree (Some numbers) (Some again) (bodies && texts) ≡ true =
    (λ i. headings_agree (sym is i) (sym its i) (bodies && texts)) ∙ agree_with_it one other after both.0 there in
    (and_parts bodies texts (same_number_agree numbers again (bodies && texts) same headings)).0
