use Rattle.kd_form.proofs.Prelude.{common_steps}
use Rattle.kd_form.proofs.OrderSteps.{counted_on, letters_few, HasReadSoFar-order, HasFaultForGood-head, IsOrder-append}
use Rattle.kd_form.proofs.OrderSteps.{HasFaultForGood-text, All-push, is_text_byte, IsTrue, HasFault, text_begins}
use Rattle.kd_form.proofs.OrderSteps.{length-append, arith, filter_map-append, BadByte, [], ◌∷◌}
use Rattle.kd_form.proofs.OrderSteps.{◌++◌, ◌+◌, ◌≡◌, ap, refl, sym, text_letters, ◌∙◌, all_of_the_day}
use Rattle.kd_form.specs.declared.sending.order_reader.OrderStage.TheVariants as stages
use Rattle.kd_form.proofs.sending.order_reader.OrderReaderMessageReader.feed.Goals as goal

pub check_keys-requires-clause-keys : goal.check_keys-requires-clause-keys
check_keys-requires-clause-keys c = grind (arith, all_of_the_day)

pub returns-then-not-is_text_byte : goal.returns-then-not-is_text_byte
returns-then-not-is_text_byte c bytes text held =
    grind (arith, c.in-Text.is, c.is_text_byte.ensures, c.if-not-is_text_byte.true, HasFaultForGood-text)

pub take-requires-in-Text-clause-taken : goal.take-requires-in-Text-clause-taken
take-requires-in-Text-clause-taken c =
    grind (arith, common_steps, c.in-Text.is, letters_few, c.keys-in-Text.ensures, length-append)

pub returns-in-Open : goal.returns-in-Open
returns-in-Open c bytes text held =
    let here = rw c.in-Head.is at held.is.stage in
    HasReadSoFar-order (record {
      counted = counted_on bytes c.args.byte held.is.counted;
      stage = rw c.in-Head.is (c.in-Open.ensures bytes here.0, cc (here.1, c.requires.empty), here.2);
    })

pub returns-in-Bad : goal.returns-in-Bad
returns-in-Bad c bytes text held =
    let here = rw c.in-Head.is at held.is.stage in
    let fault = c.in-Bad.ensures bytes here.0 in
    HasFaultForGood-head (HasFault _ (_, fault, ap BadByte (counted_on bytes c.args.byte held.is.counted)) refl)
    (λ position is.
    let same : c.args.self.now.read + 1 ≡ position = cc in
    omega (arith, same, counted_on bytes c.args.byte held.is.counted)) here.1

pub returns-in-Text-take : goal.returns-in-Text-take
returns-in-Text-take c bytes text held =
    let here = rw c.in-Head.is at held.is.stage in
    text_begins (record {
      read = c.args.self.now.read + 1;
      stage = stages.Text;
      head = c.take.new.self;
      writer = c.args.self.now.writer;
    }) c.check_keys.result refl
    (counted_on bytes c.args.byte held.is.counted) (c.in-Text-take.ensures bytes here.0) here.2 here.1
    (cc (here.1, c.requires.empty)) (rw c.keys.ensures at c.check_keys.ensures)

pub returns-else-not-is_text_byte : goal.returns-else-not-is_text_byte
returns-else-not-is_text_byte c bytes text held =
    let here = rw c.in-Text.is at held.is.stage in
    let letters = text_letters c.args.day.now here.text in
    let taken = c.take-in-Text.ensures letters text (rw c.keys-in-Text.ensures here.taken) in
    let allowed = sym c.is_text_byte.ensures ∙ c.if-not-is_text_byte.false in
    HasReadSoFar-order (record {
      counted = counted_on bytes c.args.byte held.is.counted;
      stage = rw c.in-Text.is (record {
        head = here.head;
        text = here.text ++ c.args.byte ∷ [];
        is_order = IsOrder-append (c.args.byte ∷ []) here.is_order;
        allowed = All-push (λ b. IsTrue (is_text_byte b)) here.text c.args.byte here.allowed allowed;
        taken = rw filter_map-append (rw c.keys-in-Text.ensures at taken);
      });
    })
