-- The pages of several orders, in one file.
-- Test: tests/cases/curator-messages.toml
use Rattle.std.specs.Prelude.{◌≡◌, ◌⊎◌, decimal, ℕ, ◌+◌, ◌||◌, List, [], ◌∷◌, ◌++◌, flat_map, length, All, Some}
use Rattle.std.specs.Prelude.{Result, Err, is_err, OnErr}
use Rattle.kd_tables.specs.Ports.{Port}
use Rattle.kd_tables.specs.Writing.{Writes}
use Rattle.kd_state.specs.declared.machine.parts.Parts.{Parts}
use Rattle.kd_state.specs.SheetDay.{Day, day_model, day_number}
use Rattle.kd_form.specs.OnTheKey.{IsReadyOnKey}
use Rattle.kd_form.specs.Sending.{IsFormOf}
use Rattle.kd_form.specs.Streams.{IsUntouched}
use Rattle.kd_pictures.specs.declared.texts.TheConstants as page_texts
use Rattle.kd_language.specs.declared.language.Language.{Language}
use Rattle.kd_language.specs.Language.{text_in}
use Rattle.kd_pictures.specs.SheetName.{sheet_name}
use Rattle.kd_language.specs.Template.{filled}
use Rattle.kd_pictures.specs.Words.{model_name}
use Rattle.kd_pictures.specs.declared.results.Results.{Results}
use Rattle.kd_message.specs.declared.booklet.OrderFault.{OrderFault}
use Rattle.kd_message.specs.declared.booklet.OrderFile.{OrderFile}
use Rattle.kd_message.specs.declared.texts.TheConstants as texts
use Rattle.kd_tables.specs.declared.ports.write_fault.WriteFault.{WriteFault}
use Rattle.kd_tables.specs.declared.ports.write_fault.WriteFault.TheVariants.{Device, Unwritten}
use Rattle.kd_message.specs.SendPage.{AreOrderSheets, HasForm, IsSendRefusal, title_text}

-- An order's file: its name and its bytes.
pub record OrderText : Type 0 where
  pub name : List ℕ
  pub bytes : List ℕ

-- the name and the bytes of a borrowed file
abbrev pub order_text : OrderFile → OrderText
order_text order = record { name = order.name.now; bytes = order.bytes.now }

-- ---- The file.

-- In the list of the orders, the lines from order number `number` on. Each line has an order's name, with a link to the
-- order's page.
abbrev pub listed_orders : ℕ → List OrderText → List ℕ
listed_orders number [] = []
listed_orders number (order ∷ orders) =
    filled texts.LISTED_ORDER.now (decimal number ∷ []) ++ sheet_name order.name ++ texts.LISTED_ORDER_END.now
    ++ listed_orders (number + 1) orders

-- the head of the file, with the list of the orders
unfoldable pub booklet_head : Language → Day → List OrderText → List ℕ
booklet_head l s orders =
    title_text l (text_in l texts.TITLE_TO_SEND) s
    ++ filled (text_in l texts.ORDERS) (model_name (day_model s) ∷ decimal (day_number s) ∷ decimal (length orders) ∷ [])
    ++ listed_orders 1 orders ++ page_texts.NAV_END.now

-- the page of order number `number`: its name, and then its sheets
unfoldable pub order_page : ℕ → List ℕ → List ℕ → List ℕ
order_page number name sheets =
    filled texts.ORDER_PAGE.now (decimal number ∷ []) ++ sheet_name name ++ texts.ORDER_NAME_END.now ++ sheets
    ++ texts.ARTICLE_END.now

-- `page` is the page of order number `number` in language `l`. It has the order's name and sheets.
pub record IsOrderPage (results : Results) (l : Language) (s : Day) (number : ℕ) (order : OrderText) (page : List ℕ)
    : Type 0 where
  pub form : List ℕ
  pub is_form : IsFormOf s order.bytes form
  pub sheets : List ℕ
  pub are_sheets : AreOrderSheets results l s (Some number) order.bytes form sheets
  pub is_page : page ≡ order_page number order.name sheets

-- `pages` has the page of each order, in sequence. The first order has the number `number`.
abbrev pub AreOrderPages : Results → Language → Day → ℕ → List OrderText → List (List ℕ) → Type 0
AreOrderPages results l s number [] pages = pages ≡ []
AreOrderPages results l s number (order ∷ orders) pages =
    (page : List ℕ) × (more : List (List ℕ)) × IsOrderPage results l s number order page
    × AreOrderPages results l s (number + 1) orders more × (pages ≡ page ∷ more)

-- The text is the file with the pages of the orders, in language `l`: the head, the pages, and the foot.
pub record IsSendBooklet (results : Results) (l : Language) (s : Day) (orders : List OrderText) (text : List ℕ)
    : Type 0 where
  pub pages : List (List ℕ)
  pub are_pages : AreOrderPages results l s 1 orders pages
  pub whole : text ≡ booklet_head l s orders ++ flat_map (λ page. page) pages ++ page_texts.FOOT.now

-- ---- What `write_send_booklet` answers.

-- The order can be sent on machine `m`: the machine is ready and on the day's key, and the order has a form.
abbrev pub CanBeSent : Parts → Day → List ℕ → Type 0
CanBeSent m s order = IsReadyOnKey m s × HasForm s order

-- `fault` names the first order that `send` may refuse, and says why. Places in the list are
-- counted from `place`.
abbrev pub IsFirstRefusal : Parts → Day → ℕ → List OrderText → OrderFault → Type 0
IsFirstRefusal m s place [] fault = ⊥
IsFirstRefusal m s place (order ∷ orders) fault =
    ((fault.place ≡ place) × IsSendRefusal m s order.bytes fault.why)
    ⊎ (CanBeSent m s order.bytes × IsFirstRefusal m s (place + 1) orders fault)

-- What `write_send_booklet` answers:
-- - `BookletWritten`: all orders can be sent, and the file was written. Or the sink failed, and only a prefix of the
--   file was written.
-- - `OrderRefused`: nothing was written. The answer names the first order that is refused.
pub data IsBookletAnswer (results : Results) (l : Language) (m : Parts) (s : Day) (orders : List OrderText) (sink : Port)
    (answer : Result (Unit {0}) (WriteFault OrderFault)) : Type 0 where
  BookletWritten : All (λ (order : OrderText). CanBeSent m s order.bytes) orders → (text : List ℕ)
      → IsSendBooklet results l s orders text
      → Writes sink.had sink.has text answer → OnErr answer (answer ≡ Err Device)
      → sink.has_failed ≡ (sink.had_failed || is_err answer)
      → IsBookletAnswer results l m s orders sink answer
  OrderRefused : (fault : OrderFault) → IsFirstRefusal m s 0 orders fault → answer ≡ Err (Unwritten fault)
      → IsUntouched sink
      → IsBookletAnswer results l m s orders sink answer
