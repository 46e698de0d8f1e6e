-- Columns of a text, byte by byte.
use Rattle.std.proofs.Common.{◌≡◌, ℕ, ◌+◌, ◌<◌, ◌==◌, List, [], ◌∷◌, length, get_or, reverse, take, refl}
use Rattle.std.proofs.Common.{if◌then◌else◌}
use Rattle.std.proofs.lemmas.List.{reverse-append, take_more}
use Rattle.kd_findings.specs.NotToml.{begins_character, characters_to_feed}

-- one more byte: a line feed begins a line, and another byte may begin a character
pub characters_to_feed-more : (text : List ℕ) (index d : ℕ) → index < length text
    → characters_to_feed (reverse (take (index + 1) text))
    ≡ (if get_or text index d == 10 then 0
    else if begins_character (get_or text index d) then characters_to_feed (reverse (take index text)) + 1
    else characters_to_feed (reverse (take index text)))
characters_to_feed-more text index d within =
    rw (take_more text index d within, reverse-append (take index text) (get_or text index d ∷ [])) refl
