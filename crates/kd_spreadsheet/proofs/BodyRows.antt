-- One more row of a table.
use Rattle.std.proofs.Common.{◌≡◌, ◌∙◌, ℕ, Bool, true, false, List, [], ◌∷◌, ◌++◌, refl, ap, append_assoc}
use Rattle.kd_state.specs.SheetDay.{Day, day_number}
use Rattle.kd_spreadsheet.specs.Row.{is_blank_row, IsDayOfRow}
use Rattle.kd_spreadsheet.specs.Table.{BlankRow, DayRow, IsRefusedRow, HasRefusedRow, IsBodyRead, is_taken}
use Rattle.kd_spreadsheet.specs.declared.columns.Columns.{Columns}
use Rattle.kd_options.specs.TableOptions.{OptionTexts}

module _ (options : OptionTexts) (columns : Columns) where
  refused_before : (rows : List (List (List ℕ))) (row : List (List ℕ)) → HasRefusedRow options columns rows
      → HasRefusedRow options columns (rows ++ row ∷ [])
  refused_before rows row has = record {
    before = has.before;
    row = has.row;
    after = has.after ++ row ∷ [];
    days = has.days;
    split = ap (λ all. all ++ row ∷ []) has.split ∙ append_assoc has.before (has.row ∷ has.after) (row ∷ []);
    described = has.described;
    refused = has.refused;
  }

  pub body_blank : (refused : Bool) (rows : List (List (List ℕ))) (days : List Day) (row : List (List ℕ))
      → is_blank_row columns row ≡ true → IsBodyRead options columns rows days refused
      → IsBodyRead options columns (rows ++ row ∷ []) days refused
  body_blank false rows days row blank are = BlankRow rows days row are blank
  body_blank true rows days row blank has = refused_before rows row has

  pub body_refused : (refused : Bool) (rows : List (List (List ℕ))) (days : List Day) (row : List (List ℕ))
      → IsRefusedRow options columns days row → IsBodyRead options columns rows days refused
      → HasRefusedRow options columns (rows ++ row ∷ [])
  body_refused false rows days row why are =
      record { before = rows; row = row; after = []; days = days; split = refl; described = are; refused = why }
  body_refused true rows days row why has = refused_before rows row has

  pub body_day : (refused : Bool) (rows : List (List (List ℕ))) (days : List Day) (row : List (List ℕ)) (day : Day)
      → is_blank_row columns row ≡ false → IsDayOfRow options columns row day → is_taken days (day_number day) ≡ false
      → IsBodyRead options columns rows days refused
      → IsBodyRead options columns (rows ++ row ∷ []) (days ++ day ∷ []) refused
  body_day false rows days row day filled is free are = DayRow rows days row day are filled is free
  body_day true rows days row day filled is free has = refused_before rows row has
