-- Keys that nobody reads, found one by one.
use Rattle.std.proofs.Common.{◌≡◌, ℕ, Bool, true, false, not, cond, List, ◌∷◌, map, Option, String, Global, string_bytes, refl}
use Rattle.std.proofs.Common.{if◌then◌else◌}
use Rattle.std.specs.List.{filter}
use Rattle.toml.specs.View.{members_view}
use Rattle.toml.specs.declared.value.Value.{Value}
use Rattle.kd_sheet.specs.declared.key.Key.{Key}
use Rattle.kd_findings.specs.Unread.{is_name_of, names_in}
unfoldable use Rattle.kd_findings.specs.Unread.{unread_in}

mapped_cond : {X Y : Type 0} (form : X → Y) (known : Bool) (x : X) (xs : List X)
    → map form (cond (not known) (x ∷ xs) xs) ≡ (if known then map form xs else form x ∷ map form xs)
mapped_cond form true x xs = refl
mapped_cond form false x xs = refl

-- the keys of a table's members are the first member's key, unless it is known, and then the others'
pub unread_in-cons : (entry day : Option ℕ) (known : List Key) (name : String Global) (value : Value)
    (rest : List (String Global × Value)) → unread_in entry day known (members_view ((name, value) ∷ rest))
    ≡ (if is_name_of known (string_bytes name) then unread_in entry day known (members_view rest)
    else record { entry = entry; day = day; name = string_bytes name } ∷ unread_in entry day known (members_view rest))
unfolding unread_in
unread_in-cons entry day known name value rest =
    mapped_cond (λ key. record { entry = entry; day = day; name = key }) (is_name_of known (string_bytes name))
    (string_bytes name) (filter (λ key. not (is_name_of known key)) (names_in (members_view rest)))
