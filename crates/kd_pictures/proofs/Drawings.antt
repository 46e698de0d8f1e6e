-- Texts written one after another.
use Rattle.std.proofs.Common.{◌≡◌, ℕ, ◌+◌, Bool, true, false, ◌||◌, List, [], ◌∷◌, ◌++◌, length, take, Option, Result}
use Rattle.std.proofs.Common.{Err, None, Some, append-nil, arith, is_err, refl, sym, subst, ◌∙◌, length-append}
use Rattle.std.proofs.KnownBytes.{Appends-trans, Keeps-trans}
use Rattle.std.proofs.Math.Seq.{take-append-add}
use Rattle.std.proofs.lemmas.List.{take-append-le}
use Rattle.std.proofs.lemmas.Grind.{common_steps}
use Rattle.std.specs.Io.KnownBytes.{Appends, Keeps}
use Rattle.kd_tables.specs.Writing.{Writes, TakesPrefix}
use Rattle.kd_pictures.specs.Drawing.{Draws}

pub Draws_put : {W T E : Type 0} (taken : W → Option (List ℕ)) (failed : W → Bool) (old new : W) (text : List ℕ)
    (answer : Result T E) → failed old ≡ false → Writes (taken old) (taken new) text answer
    → failed new ≡ (failed old || is_err answer) → Draws taken failed old new text
Draws_put taken failed old new text answer well writes fails = grind (arith, common_steps)

pub Draws_none : {W : Type 0} (taken : W → Option (List ℕ)) (failed : W → Bool) (old : W) (text : List ℕ)
    → failed old ≡ true → Draws taken failed old old text
Draws_none taken failed old text ill = grind (arith, common_steps)

Appends-keeps : (a b c : Option (List ℕ)) (text : List ℕ) → Appends a b text → Keeps b c → Appends a c text
Appends-keeps None b c text one two = tt
Appends-keeps (Some x) None c text one two = absurd one
Appends-keeps (Some x) (Some y) None text one two = absurd two
Appends-keeps (Some x) (Some y) (Some z) text one two = two ∙ one

Keeps-none : (a b : Option (List ℕ)) (text : List ℕ) → Keeps a b → Appends a b (take 0 text)
Keeps-none None b text kept = tt
Keeps-none (Some x) None text kept = absurd kept
Keeps-none (Some x) (Some y) text kept = kept ∙ sym (append-nil x)

-- The sink had failed (`true`) or hadn't failed (`false`) before the second text.
front_of_both : {W : Type 0} (taken : W → Option (List ℕ)) (failed : W → Bool) (old mid new : W) (a b : List ℕ)
    (then : Bool) → failed mid ≡ then
    → Draws taken failed old mid a → Draws taken failed mid new b → failed old ≡ false → failed new ≡ true
    → TakesPrefix (taken old) (taken new) (a ++ b)
front_of_both taken failed old mid new a b false e one two well ill =
    let part = two.front e ill in (
      length a + part.0,
      omega (arith, part.1, length-append a b),
      subst (Appends (taken old) (taken new)) (sym (take-append-add a b part.0))
          (Appends-trans (taken old) (taken mid) (taken new) a (take part.0 b) (one.whole e).1 part.2),
    )
front_of_both taken failed old mid new a b true e one two well ill =
    let part = one.front well e in (
      part.0,
      omega (arith, part.1, length-append a b),
      subst (Appends (taken old) (taken new)) (sym (take-append-le part.0 a b (omega (arith, part.1))))
          (Appends-keeps (taken old) (taken mid) (taken new) (take part.0 a) part.2 (two.none e).1),
    )

pub nothing_drawn : {W : Type 0} {taken : W → Option (List ℕ)} {failed : W → Bool} {old : W}
    → Draws taken failed old old []
nothing_drawn = grind (arith, common_steps)

pub Draws_then : {W : Type 0} (taken : W → Option (List ℕ)) (failed : W → Bool) (old mid new : W) (a b : List ℕ)
    → Draws taken failed old mid a → Draws taken failed mid new b → Draws taken failed old new (a ++ b)
Draws_then taken failed old mid new a b one two = record {
  whole = λ well. let later = two.whole well in let first = one.whole later.0 in
      (first.0, Appends-trans (taken old) (taken mid) (taken new) a b first.1 later.1);
  front = front_of_both taken failed old mid new a b (failed mid) refl one two;
  none = λ ill. let first = one.none ill in let later = two.none first.0 in
      (later.0, Keeps-trans (taken old) (taken mid) (taken new) first.1 later.1);
}

-- Texts written one after another are the text joined from them.
pub both : {W : Type 0} {taken : W → Option (List ℕ)} {failed : W → Bool} {old mid new : W} {a b : List ℕ}
    → Draws taken failed old mid a → Draws taken failed mid new b → Draws taken failed old new (a ++ b)
both {taken = taken} {failed = failed} {old = old} {mid = mid} {new = new} {a = a} {b = b} one two =
    Draws_then taken failed old mid new a b one two

-- The whole text is two texts, one after the other.
pub joined : {W : Type 0} {taken : W → Option (List ℕ)} {failed : W → Bool} {old mid new : W} {a b text : List ℕ}
    → Draws taken failed old mid a → Draws taken failed mid new b → text ≡ a ++ b → Draws taken failed old new text
joined one two is = rw is (both one two)

-- A text that isn't empty was drawn, and then the sink has failed: it took a prefix of the text.
front_before : {W : Type 0} {taken : W → Option (List ℕ)} {failed : W → Bool} {old new : W} {text rest : List ℕ}
    {byte : ℕ}
    (before : Bool) → failed old ≡ before → text ≡ byte ∷ rest → Draws taken failed old new text → failed new ≡ true
    → TakesPrefix (taken old) (taken new) text
front_before false well is draws ill = draws.front well ill
front_before {taken = taken} {old = old} {new = new} {text = text} true had is draws ill =
    (0, rw is (omega arith), Keeps-none (taken old) (taken new) text (draws.none had).1)

pub writes_part : {W T E : Type 0} {taken : W → Option (List ℕ)} {failed : W → Bool} {old new : W}
    {text rest : List ℕ} {byte : ℕ} (fault : E) → text ≡ byte ∷ rest → Draws taken failed old new text
    → failed new ≡ true → Writes {T = T} (taken old) (taken new) text (Err fault)
writes_part {failed = failed} {old = old} fault is draws ill =
    record { whole = tt; front = front_before (failed old) refl is draws ill }
