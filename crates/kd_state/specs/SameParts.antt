-- How definitions compare wheels and reflectors, and find items of lists by number. The derived operator `==` compares
-- two wheels, or two reflectors. It is true exactly if they are the same, by the law `SamePartsAreEqual` in
-- `Laws.antt`.
-- Code: a wheel's place in the box is found by a search.
use Rattle.std.specs.Prelude.{ℕ, zero, suc, Bool, List, slice_get, Option, None}
use Rattle.std.specs.List.{position_or_len}
use Rattle.kd_tables.specs.contracts.wheel.WheelPartialEq.TheImpl as wheel_eq
use Rattle.kd_tables.specs.contracts.reflector.ReflectorPartialEq.TheImpl as reflector_eq
use Rattle.kd_tables.specs.declared.model.Model.{Model}
use Rattle.kd_tables.specs.declared.wheel.Wheel.{Wheel}
use Rattle.kd_tables.specs.declared.reflector.Reflector.{Reflector}
use Rattle.kd_tables.specs.Tables.{box_of}

-- whether two wheels are the same
abbrev pub same_wheel : Wheel → Wheel → Bool
same_wheel = (wheel_eq.ghosts).eq

-- whether two reflectors are the same
abbrev pub same_reflector : Reflector → Reflector → Bool
same_reflector = (reflector_eq.ghosts).eq

-- the wheel's place in the model's box, counted from 0; the box's length if the wheel isn't in it
abbrev pub place_in_box : Model → Wheel → ℕ
place_in_box model wheel = position_or_len (same_wheel wheel) (box_of model)

-- item `number` of the list, counted from 1; `None` if there is no such item
abbrev pub numbered_item : {X : Type 0} → List X → ℕ → Option X
numbered_item xs zero = None
numbered_item xs (suc place) = slice_get xs place
