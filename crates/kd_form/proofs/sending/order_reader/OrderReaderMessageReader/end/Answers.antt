use Rattle.kd_form.proofs.OrderSteps.{IsMessageAnswer-head_cut, IsMessageAnswer-order, text_letters}
use Rattle.kd_form.proofs.sending.order_reader.OrderReaderMessageReader.end.Goals as goal

pub returns-in-Head : goal.returns-in-Head
returns-in-Head c bytes text held =
    let here = rw c.in-Head.is at held.is.stage in
    IsMessageAnswer-head_cut here.0 here.1 c.requires.empty held.is.counted

pub returns-in-Text : goal.returns-in-Text
returns-in-Text c bytes text held =
    let here = rw c.in-Text.is at held.is.stage in
    let last = c.end.ensures (text_letters c.args.day.now here.text) text (rw c.keys.ensures here.taken) in
    IsMessageAnswer-order here c.end.new.output.items c.end.result (rw c.keys.ensures at last)
