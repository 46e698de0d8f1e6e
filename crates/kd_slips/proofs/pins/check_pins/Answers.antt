use Rattle.std.proofs.Common.{◌≡◌, ◌≢◌, List, length, None, Some, arith, refl, sym, ◌∙◌}
use Rattle.std.proofs.lemmas.List.{length-map}
use Rattle.std.specs.Option.{option_and_then}
use Rattle.toml.specs.Data.{Data, Members, get_member}
use Rattle.toml.specs.View.{view}
use Rattle.kd_sheet.specs.Document.{as_items}
use Rattle.kd_sheet.specs.Key.{key_name}
use Rattle.kd_sheet.specs.declared.key.Key.TheVariants as keys
use Rattle.kd_slips.specs.Items.{IsOfItem, first_refused, reads_pins, refused_pins}
use Rattle.kd_slips.proofs.Finding.{handed_on, no_item, no_value}
use Rattle.kd_slips.proofs.pins.check_pins.Goals as goal

no_list : (table : Members) → option_and_then as_items (get_member (key_name keys.Pins) table) ≡ None
    → refused_pins table ≡ None
unfolding refused_pins
no_list table is = rw is refl

other_count : (table : Members) (items : List Data)
    → option_and_then as_items (get_member (key_name keys.Pins) table) ≡ Some items → length items ≢ 6
    → refused_pins table ≡ None
unfolding refused_pins
other_count table items is other = rw is (grind (arith, other))

six : (table : Members) (items : List Data)
    → option_and_then as_items (get_member (key_name keys.Pins) table) ≡ Some items → length items ≡ 6
    → refused_pins table ≡ first_refused reads_pins items
unfolding refused_pins
six table items is same = rw is (grind (arith, same))

pub returns-in_err-items-clause-read : goal.returns-in_err-items-clause-read
returns-in_err-items-clause-read c = no_value c.from_residual.result _ c.from_residual.ensures.0

pub returns-in_err-items-clause-item : goal.returns-in_err-items-clause-item
returns-in_err-items-clause-item c =
    handed_on c.from_residual.result _ (IsOfItem _) c.from_residual.ensures.1
    (no_item _ _ _ (no_list _ c.in_err-items.ensures.other) c.in_err-items.ensures.slip)

pub returns-in_err-check_count-clause-read : goal.returns-in_err-check_count-clause-read
returns-in_err-check_count-clause-read c =
    no_value c.from_residual-in_err-check_count.result _ c.from_residual-in_err-check_count.ensures.0

pub returns-in_err-check_count-clause-item : goal.returns-in_err-check_count-clause-item
returns-in_err-check_count-clause-item c =
    handed_on c.from_residual-in_err-check_count.result _ (IsOfItem _) c.from_residual-in_err-check_count.ensures.1
    (no_item _ _ _ (other_count _ _ c.in_ok-items.ensures.found
    (λ same. c.in_err-check_count.ensures.other (sym (length-map c.in_ok-items.items.now view) ∙ same)))
    c.in_err-check_count.ensures.slip)

pub returns-clause-read : goal.returns-clause-read
returns-clause-read c =
    rw (six _ _ c.in_ok-items.ensures.found (length-map c.in_ok-items.items.now view ∙ c.in_ok-check_count.ensures.same))
    c.check_pin_items.ensures.read

pub returns-clause-item : goal.returns-clause-item
returns-clause-item c =
    rw (six _ _ c.in_ok-items.ensures.found (length-map c.in_ok-items.items.now view ∙ c.in_ok-check_count.ensures.same))
    c.check_pin_items.ensures.item
