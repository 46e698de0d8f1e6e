use Rattle.kd_card.proofs.card_reader.read_count.Goals as goal

pub returns : goal.returns
returns c = rw c.format.ensures.text at c.read_value.ensures
