use Rattle.std.proofs.Common.{[], ap, arith, length, refl}
use Rattle.std.proofs.lemmas.List.{nil_from_length}
use Rattle.kd_message.proofs.Booklets.{good_first, good_rest, pages_next}
use Rattle.kd_message.proofs.booklet.+draw_order_pages.Goals as goal

pub draw_order_page-requires : goal.draw_order_page-requires
draw_order_page-requires g t c =
    good_first _ c.in-Some.order.now c.in-Some.rest.now _ c.in-Some.ensures.cases.0 c.requires.good

pub draw_order_pages-requires : goal.draw_order_pages-requires
draw_order_pages-requires g t c κs within =
    let split = c.in-Some.ensures.cases.0 in (
      omega (arith, c.decreases, ap length split),
      (
        within,
        (
          good_rest _ c.in-Some.order.now c.in-Some.rest.now _ split c.requires.good,
          omega (arith, c.requires.few, ap length split),
        ),
      ),
    )

pub returns-in-Some : goal.returns-in-Some
returns-in-Some g t c =
    pages_next _ _ _ _ c.in-Some.order.now c.in-Some.rest.now _ c.in-Some.ensures.cases.0 c.draw_order_page.ensures
    c.draw_order_pages.ensures

pub returns-in_default : goal.returns-in_default
returns-in_default g t c =
    let none = nil_from_length c.args.orders.now (omega (arith, c.in_default.ensures.cases)) in
    ([], rw none refl, c.draw.ensures)
