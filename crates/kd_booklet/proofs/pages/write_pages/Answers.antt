use Rattle.std.proofs.Common.{rules, ◌∙◌}
use Rattle.kd_page.proofs.{Drawings.{writes_part}, Headings.{file_begins}}
use Rattle.kd_booklet.proofs.pages.write_pages.Goals as goal

pub returns-then-failed-clause-pages : goal.returns-then-failed-clause-pages
returns-then-failed-clause-pages g c =
    let text = c.draw_pages.ensures in
    (text.0, text.1, writes_part _ (text.1.whole ∙ (file_begins _ _ _ _ _ _).1) text.2 (search rules))
