use Rattle.kd_prices.proofs.Doubts.{doubted, told}
use Rattle.kd_prices.proofs.checking.check.Goals as goal

pub returns : goal.returns
returns c =
    let card = c.args.card.now in record {
      proves = told c.args.machine.now c.args.day.now card.settings.items card.prices _ c.first_doubt.ensures.answer;
      doubt = doubted c.args.machine.now c.args.day.now card.settings.items card.prices _ c.first_doubt.ensures.answer;
      machine = c.first_doubt.ensures.machine;
      day = c.first_doubt.ensures.day;
    }
