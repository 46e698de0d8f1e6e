use Rattle.kd_prices.proofs.{Doubts.{only_checked, proving_says}, Prelude.{Err, Ok}}
use Rattle.kd_prices.proofs.laws.a_card_is_in_one_doubt_at_most.Goals as goal

pub returns : goal.returns
returns c =
    record {
      none = λ m s settings prices doubt proves h.
          let same =
          only_checked m s settings prices (Err doubt) (Ok tt) h (proving_says m s settings prices proves) in cc;
      one = λ m s settings prices doubt other a b.
          let same = only_checked m s settings prices (Err doubt) (Err other) a b in cc;
    }
