-- What the loops over received bytes keep.
use Rattle.std.proofs.Common.{◌≡◌, ◌∙◌, ℕ, ◌+◌, ◌<◌, List, [], ◌∷◌, ◌++◌, length, map, take, refl, sym, ap, arith}
use Rattle.std.proofs.Common.{Option, Some, None, get_or, option_to_list, is_some, cond}
use Rattle.std.specs.List.{cons_option, count_by, filter_map}
use Rattle.std.proofs.lemmas.Bool.{cases_lt}
use Rattle.std.proofs.lemmas.List.{get_or_default, length-take, map_push, take-append-le, take-take, take_all}
use Rattle.std.proofs.lemmas.List.{take_more}
use Rattle.std.proofs.lemmas.List.Sums.{sum_by-cons}
use Rattle.std.proofs.lemmas.List.Elements.{filter_map-append}
use Rattle.kd_lost.specs.Lost.{received_letter, received_letters}
use Rattle.kd_lost.specs.DamagedPart.{body_letter, body_letters, filled_byte}

still_kept : {X : Type 0} (n : ℕ) (xs ys : List X) → take n (take n xs ++ ys) ≡ take n (xs ++ ys)
still_kept n xs ys = grind (arith, cases_lt, take-append-le, length-take, take-take, take_all)

more_mapped : {X Y : Type 0} (f : X → Y) (n : ℕ) (xs : List X) (index : ℕ) (x : X) (kept : List Y)
    → index < length xs → get_or xs index x ≡ x → kept ≡ take n (map f (take index xs))
    → take n (kept ++ f x ∷ []) ≡ take n (map f (take (index + 1) xs))
more_mapped f n xs index x kept inside is was =
    ap (λ l. take n (l ++ f x ∷ [])) was ∙ still_kept n (map f (take index xs)) (f x ∷ [])
    ∙ sym (ap (λ l. take n (map f l)) (take_more xs index x inside)
    ∙ ap (take n) (map_push f (take index xs) (get_or xs index x))
    ∙ ap (λ y. take n (map f (take index xs) ++ f y ∷ [])) is)

one_found : {Y : Type 0} (found : Option Y) → cons_option found [] ≡ option_to_list found
one_found None = refl
one_found (Some y) = refl

more_found : {X Y : Type 0} (f : X → Option Y) (n : ℕ) (xs : List X) (index : ℕ) (x : X) (kept : List Y)
    → index < length xs → get_or xs index x ≡ x → kept ≡ take n (filter_map f (take index xs))
    → take n (kept ++ option_to_list (f x)) ≡ take n (filter_map f (take (index + 1) xs))
more_found f n xs index x kept inside is was =
    ap (λ l. take n (l ++ option_to_list (f x))) was ∙ still_kept n (filter_map f (take index xs)) (option_to_list
    (f x))
    ∙ sym (ap (λ l. take n (filter_map f l)) (take_more xs index x inside)
    ∙ ap (take n) (filter_map-append f (take index xs) (get_or xs index x ∷ []))
    ∙ ap (λ y. take n (filter_map f (take index xs) ++ cons_option (f y) [])) is
    ∙ ap (λ l. take n (filter_map f (take index xs) ++ l)) (one_found (f x)))

one_counted : {Y : Type 0} (found : Option Y) (more : List Y)
    → length (cons_option found more) ≡ cond (is_some found) 1 0 + length more
one_counted None more = omega arith
one_counted (Some y) more = omega arith

found_counted : {X Y : Type 0} (f : X → Option Y) (xs : List X)
    → count_by (λ x. is_some (f x)) xs ≡ length (filter_map f xs)
found_counted f [] = refl
found_counted f (x ∷ xs) =
    sum_by-cons (λ y. cond (is_some (f y)) 1 0) x xs ∙ ap (λ n. cond (is_some (f x)) 1 0 + n) (found_counted f xs)
    ∙ sym (one_counted (f x) (filter_map f xs))

pub kept_already : {X : Type 0} (n : ℕ) (kept xs : List X) → kept ≡ take n xs → kept ≡ take n kept
kept_already n kept xs is = is ∙ sym (take-take n n xs (omega arith)) ∙ ap (take n) (sym is)

pub filled_more : (line : List ℕ) (index d : ℕ) (kept : List ℕ) → index < length line
    → kept ≡ take 64 (map filled_byte (take index line))
    → take 64 (kept ++ filled_byte (get_or line index d) ∷ []) ≡ take 64 (map filled_byte (take (index + 1) line))
filled_more line index d kept inside was =
    more_mapped filled_byte 64 line index (get_or line index d) kept inside (grind (arith, get_or_default)) was

pub letters_more : (body : List ℕ) (index d : ℕ) (kept : List (Option ℕ)) → index < length body
    → kept ≡ take 525 (received_letters (take index body))
    → take 525 (kept ++ option_to_list (received_letter (get_or body index d)))
    ≡ take 525 (received_letters (take (index + 1) body))
letters_more body index d kept inside was =
    more_found received_letter 525 body index (get_or body index d) kept inside (grind (arith, get_or_default)) was

pub body_more : (body : List ℕ) (index d : ℕ) (kept : List (Option ℕ)) → index < length body
    → kept ≡ body_letters (take index body)
    → take 525 (kept ++ option_to_list (body_letter (get_or body index d))) ≡ body_letters (take (index + 1) body)
body_more body index d kept inside was =
    more_found body_letter 525 body index (get_or body index d) kept inside (grind (arith, get_or_default)) was

pub letters_counted : (body : List ℕ)
    → count_by (λ byte. is_some (received_letter byte)) body ≡ length (received_letters body)
letters_counted body = found_counted received_letter body
