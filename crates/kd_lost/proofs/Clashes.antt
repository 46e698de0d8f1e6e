-- No two parts clash exactly if the parts are of one message, and no group differs exactly if the bodies agree.
use Rattle.std.proofs.Common.{◌≡◌, ◌∙◌, ℕ, ◌+◌, ◌&&◌, Bool, true, false, List, [], ◌∷◌, Option, Some, None, ap, if◌then◌else◌, is_none, refl}
use Rattle.kd_lost.specs.declared.clash.Clash.{Clash}
use Rattle.kd_lost.specs.declared.clash.Difference.TheVariants as differences
use Rattle.kd_lost.specs.declared.part.DamagedPart.{DamagedPart}
use Rattle.kd_lost.specs.Clash.{clash_among, clash_of, clash_with, difference_of, first_clash, first_different_group}
use Rattle.kd_lost.specs.Clash.{first_different_place, group_of, line_shown, uncovered_among}
use Rattle.kd_lost.specs.OneMessage.{agrees_with_each, are_of_one_message, bodies_agree, letter_agrees, parts_agree}
use Rattle.kd_lost.specs.ShownParts.{are_covered, is_covered, is_one_message}

chosen_none : (agrees : Bool) (later : Option Clash) (clash : Clash)
    → is_none (if agrees then later else Some clash) ≡ (agrees && is_none later)
chosen_none true later clash = refl
chosen_none false later clash = refl

first_none : (one other : Option Clash) → is_none (first_clash one other) ≡ (is_none one && is_none other)
first_none None other = refl
first_none (Some clash) other = refl

with_none : (part : DamagedPart) (others : List DamagedPart)
    → is_none (clash_with part others) ≡ agrees_with_each part others
with_none part [] = refl
with_none part (other ∷ others) =
    chosen_none (parts_agree part other) (clash_with part others)
    (record { line = part.line; other_line = other.line; difference = difference_of part other })
    ∙ ap (λ b. parts_agree part other && b) (with_none part others)

pub among_none : (parts : List DamagedPart) → is_none (clash_among parts) ≡ are_of_one_message parts
among_none [] = refl
among_none (part ∷ parts) =
    first_none (clash_with part parts) (clash_among parts)
    ∙ ap (λ b. b && is_none (clash_among parts)) (with_none part parts)
    ∙ ap (λ b. agrees_with_each part parts && b) (among_none parts)

uncovered_none : (all parts : List DamagedPart) → is_none (uncovered_among all parts) ≡ are_covered all parts
uncovered_none all [] = refl
uncovered_none all (part ∷ parts) =
    chosen_none (is_covered all part) (uncovered_among all parts)
    (record { line = part.line; other_line = line_shown all part.line part.numbers; difference = differences.Letters })
    ∙ ap (λ b. is_covered all part && b) (uncovered_none all parts)

pub clash_none : (parts : List DamagedPart) → is_none (clash_of parts) ≡ is_one_message parts
clash_none parts =
    first_none (clash_among parts) (uncovered_among parts parts)
    ∙ ap (λ b. b && is_none (uncovered_among parts parts)) (among_none parts)
    ∙ ap (λ b. are_of_one_message parts && b) (uncovered_none parts parts)

place_none : (agrees : Bool) (later : Option ℕ) (place : ℕ)
    → is_none (if agrees then later else Some place) ≡ (agrees && is_none later)
place_none true later place = refl
place_none false later place = refl

no_different_place : (place : ℕ) (one other : List (Option ℕ))
    → is_none (first_different_place place one other) ≡ bodies_agree one other
no_different_place place [] other = refl
no_different_place place (letter ∷ one) [] = refl
no_different_place place (letter ∷ one) (again ∷ other) =
    place_none (letter_agrees letter again) (first_different_place (place + 1) one other) place
    ∙ ap (λ b. letter_agrees letter again && b) (no_different_place (place + 1) one other)

group_none : (place : Option ℕ) → is_none (group_of place) ≡ is_none place
group_none None = refl
group_none (Some place) = refl

pub no_different_group : (one other : List (Option ℕ))
    → is_none (first_different_group one other) ≡ bodies_agree one other
no_different_group one other = group_none (first_different_place 0 one other) ∙ no_different_place 0 one other
