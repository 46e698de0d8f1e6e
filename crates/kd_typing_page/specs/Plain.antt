-- Each template of the page has a gap for each value that the page fills into it.
use Rattle.std.specs.Prelude.{◌≡◌, count_by}
use Rattle.kd_pictures.specs.Checked.{Takes}
use Rattle.kd_language.specs.Template.{is_gap}
use Rattle.kd_typing_page.specs.declared.texts.TheConstants as texts

-- Each template has exactly as many gaps as it gets values.
abbrev pub TemplatesTakeTheirValues : Type 0
TemplatesTakeTheirValues =
    Takes texts.TITLE 1 × Takes texts.ROTOR_HEAD 1 × Takes texts.PIN_HEAD 1 × Takes texts.WINDOW 3
    × Takes texts.WINDOW_END 1 × Takes texts.WHEEL 3 × Takes texts.WHEEL_END 1 × Takes texts.WHEEL_PINS 1
    × (count_by is_gap texts.LETTER.now ≡ 1)
    × (count_by is_gap texts.BAR.now ≡ 2)
