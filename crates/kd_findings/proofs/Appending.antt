-- Texts that are appended, one after another.
use Rattle.std.proofs.Common.{ℕ, List, [], ◌∷◌, ◌++◌, ap, sym, ◌∙◌, append_assoc, append-nil, refl}
use Rattle.kd_findings.specs.Texts.{AppendsText, ArePieces, BeginsWith}

-- a piece is appended, and then others
pub AppendsText-then : (First Others : List ℕ → Type 0) (old middle new : List ℕ) → AppendsText First old middle
    → AppendsText Others middle new → AppendsText (BeginsWith First Others) old new
AppendsText-then First Others old middle new first others =
    record {
      text = first.text ++ others.text;
      fits = record { piece = first.text; others = others.text; first = first.fits; after = others.fits; whole = refl };
      added = others.added ∙ ap (λ front. front ++ others.text) first.added ∙ append_assoc old first.text others.text;
    }

-- the pieces of some things, and then the piece of one more
pub ArePieces-more : {A : Type 0} (IsPiece : A → List ℕ → Type 0) (things : List A) (one : A) (text piece : List ℕ)
    → ArePieces IsPiece things text → IsPiece one piece → ArePieces IsPiece (things ++ one ∷ []) (text ++ piece)
ArePieces-more IsPiece [] one text piece are is =
    record { piece = piece; others = []; first = is; after = refl; whole = ap (λ front. front ++ piece) are ∙ sym (append-nil piece) }
ArePieces-more IsPiece (first ∷ rest) one text piece are is =
    record {
      piece = are.piece;
      others = are.others ++ piece;
      first = are.first;
      after = ArePieces-more IsPiece rest one are.others piece are.after is;
      whole = ap (λ front. front ++ piece) are.whole ∙ append_assoc are.piece are.others piece;
    }

-- the piece of one more thing is appended
pub AppendsText-more : {A : Type 0} (IsPiece : A → List ℕ → Type 0) (things : List A) (one : A) (old middle new : List ℕ)
    → AppendsText (ArePieces IsPiece things) old middle → AppendsText (IsPiece one) middle new
    → AppendsText (ArePieces IsPiece (things ++ one ∷ [])) old new
AppendsText-more IsPiece things one old middle new before more =
    record {
      text = before.text ++ more.text;
      fits = ArePieces-more IsPiece things one before.text more.text before.fits more.fits;
      added = more.added ∙ ap (λ front. front ++ more.text) before.added ∙ append_assoc old before.text more.text;
    }

-- no pieces are appended
pub AppendsText-none : {A : Type 0} (IsPiece : A → List ℕ → Type 0) (text : List ℕ)
    → AppendsText (ArePieces IsPiece []) text text
AppendsText-none IsPiece text = record { text = []; fits = refl; added = sym (append-nil text) }
