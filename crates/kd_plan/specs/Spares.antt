-- Spare cables, and settings that leave them free.
use Rattle.std.specs.Prelude.{ℕ, ◌-◌, ◌<◌, ◌≤◌, nat_lt, not, ◌&&◌, ◌||◌, Bool, IsTrue, List, length, count_by, take}
use Rattle.std.specs.Prelude.{Contains, IfSome, Option, None, is_none, slice_index, slice_index_or}
use Rattle.kd_state.specs.declared.machine.parts.Parts.{Parts}
use Rattle.kd_state.specs.{SheetDay.Day, declared.setting.Setting.{Setting, TheVariants.Put}}
use Rattle.kd_state.specs.ByModel.{by_model}
use Rattle.kd_state.specs.SameParts.{numbered_item}

-- whether the cable is spare: it has no letter. All other cables are in use.
abbrev pub is_spare : Option ℕ × Option ℕ → Bool
is_spare cable = is_none cable.0 && is_none cable.1

-- Cable `number` is spare, or `cables` has no cable with this number.
abbrev pub IsSpareCable : List (Option ℕ × Option ℕ) → ℕ → Type 0
IsSpareCable cables number = IfSome (numbered_item cables number) (λ cable. IsTrue (is_spare cable))

-- Settings may put letters into all cables in use, but only into the first spare cables. If the day has `p` pairs, and
-- `c` cables are in use, these are the first `p - c` spare cables. For example, with ten pairs and eight cables in
-- use, two spare cables may get letters. If `c` is `p` or more, no spare cable gets letters.
abbrev pub SparesStayFree : Parts → Day → List Setting → Type 0
SparesStayFree = by_model (λ settings. ⊥)
    (λ machine day settings. (cable letter : ℕ) → Contains settings (Put cable letter)
    → IsSpareCable machine.cables cable
    → count_by is_spare (take cable machine.cables)
    ≤ length day.pairs - count_by (λ cable. not (is_spare cable)) machine.cables)
    (λ machine day settings. Unit {0})

-- ---- Assignments that give pairs to cables in use first. No public contract cites these definitions.

-- whether the cable at `place`, counted from 0, is spare
abbrev pub is_spare_at : List (Option ℕ × Option ℕ) → ℕ → Bool
is_spare_at cables place = is_spare (slice_index_or cables place (None, None))

-- whether the cable at `place` comes before the spare cable at `spare`: the cable at `place` is in use, or `place` is
-- below `spare`
abbrev pub comes_before : List (Option ℕ × Option ℕ) → ℕ → ℕ → Bool
comes_before cables place spare = nat_lt place spare || not (is_spare_at cables place)

-- A spare cable is assigned a pair only if each cable that comes before it is assigned a pair.
abbrev pub SparesComeLast : List (Option ℕ × Option ℕ) → ℕ → List ℕ → Type 0
SparesComeLast cables pairs to =
    (spare place : ℕ) → spare < 13 → IsTrue (is_spare_at cables spare) → slice_index to spare < pairs
    → place < 13 → IsTrue (comes_before cables place spare) → slice_index to place < pairs
