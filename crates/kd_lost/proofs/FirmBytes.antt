-- Bytes that stand for no lost letter, and are meant as they stand.
use Rattle.std.proofs.Common.{All, IsFalse, ◌≡◌, ◌∙◌, ℕ, List, [], ◌∷◌, map, refl, ap, arith, Option, Some, None, option_map}
use Rattle.std.proofs.lemmas.List.Elements.{All-head, All-tail}
use Rattle.std.specs.List.{cons_option}
use Rattle.kd_form.specs.Sending.{letter_of_byte, letters_from}
use Rattle.kd_lost.specs.DamagedPart.{filled_byte}
use Rattle.kd_lost.specs.Lost.{is_lost, meant_byte, received_letter, received_letters}

abbrev pub IsFirm : ℕ → Type 0
IsFirm byte = IsFalse (is_lost byte) × (meant_byte byte ≡ byte)

abbrev pub AreFirm : List ℕ → Type 0
AreFirm bytes = All IsFirm bytes

-- -------- they are read as they stand

pub firm_filled : (line : List ℕ) → AreFirm line → map filled_byte line ≡ line
firm_filled [] firm = refl
firm_filled (byte ∷ line) firm =
    let here = All-head IsFirm byte line firm in
    let one : filled_byte byte ≡ byte = grind (arith, here) in
    let more = firm_filled line (All-tail IsFirm byte line firm) in
    λ i. one i ∷ more i

received_firm : (byte : ℕ) → IsFirm byte → received_letter byte ≡ option_map Some (letter_of_byte None byte)
received_firm byte firm = grind (arith, firm)

cons_some : (given : Option ℕ) (rest : List ℕ)
    → cons_option (option_map Some given) (map Some rest) ≡ map Some (cons_option given rest)
cons_some None rest = refl
cons_some (Some letter) rest = refl

pub received_all : (body : List ℕ) → AreFirm body → received_letters body ≡ map Some (letters_from None body)
received_all [] firm = refl
received_all (byte ∷ body) firm =
    ap (λ o. cons_option o (received_letters body)) (received_firm byte (All-head IsFirm byte body firm))
    ∙ ap (cons_option (option_map Some (letter_of_byte None byte)))
    (received_all body (All-tail IsFirm byte body firm))
    ∙ cons_some (letter_of_byte None byte) (letters_from None body)
