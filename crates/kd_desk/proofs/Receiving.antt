-- A received form gives back its order's text; a refused form is the form of no order.
use Rattle.kd_desk.proofs.Prelude.{List, ℕ, ◌++◌, Ok, Err, Day, IsLegalDay, FormFault, FormsAgreeWithOrders}
use Rattle.kd_form.specs.{FormText.IsReceiveFault, Sending.IsFormOf}
use Rattle.kd_form.proofs.OneText.{forms_have_one_answer, refused_after, stays_refused}
use Rattle.kd_form.proofs.GivenBack.{forms_give_their_orders, orders_give_letters}

pub forms_agree_with_orders : (s : Day) → IsLegalDay s → FormsAgreeWithOrders s
forms_agree_with_orders s legal =
    let unsent : (form order : List ℕ) (fault : FormFault) → IsReceiveFault s form fault → ¬ (IsFormOf s order form) =
    λ form order fault is sent.
    let (given, gives) = orders_give_letters s order form sent in
    let clash = forms_have_one_answer s form (Ok given) (Err fault)
    (forms_give_their_orders s order form given legal sent gives) is in cc in
    record {
      back = λ form text order given is sent gives.
          let same = forms_have_one_answer s form (Ok text) (Ok given) is
          (forms_give_their_orders s order form given legal sent gives) in cc;
      of_no_order = unsent;
      of_no_front = λ form more order fault stands. unsent (form ++ more) order fault
          (stands.0, refused_after s (form ++ more) stands.0 fault (stays_refused s form more stands.0 fault stands.1));
    }
