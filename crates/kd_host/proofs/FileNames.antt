-- The names of files that are asked for, one after another.
use Rattle.std.proofs.Common.{◌≡◌, ℕ, List, [], ◌∷◌, ◌++◌, Result, IsErrAnd, is_ok, map, refl, sym, ap, ◌∙◌, subst}
use Rattle.std.proofs.Common.{append_assoc}
use Rattle.kd_host.specs.Files.{AreAskedFor, AskedName, MissesOne, asked_and_had, asked_and_missed}
use Rattle.{kd_host.proofs.Failing.err_is, kd_host.specs.declared.file_fault.FileFault.FileFault}

asked-joined : (one : AskedName) (old new rest : List AskedName) → new ≡ old ++ one ∷ []
    → new ++ rest ≡ old ++ one ∷ rest
asked-joined one old new rest is = ap (λ l. l ++ rest) is ∙ append_assoc old (one ∷ []) rest

-- if one file was read or opened, and then all others, all of them were
pub all_on : (name : List ℕ) (names : List (List ℕ)) (old new newer : List AskedName)
    → new ≡ old ++ asked_and_had name ∷ [] → newer ≡ new ++ map asked_and_had names
    → newer ≡ old ++ map asked_and_had (name ∷ names)
all_on name names old new newer is more = more ∙ asked-joined (asked_and_had name) old new (map asked_and_had names) is

-- if one file was read or opened, and a later one wasn't, one of them wasn't
pub misses_on : (name : List ℕ) (names : List (List ℕ)) (old new newer : List AskedName)
    → new ≡ old ++ asked_and_had name ∷ [] → MissesOne names new newer → MissesOne (name ∷ names) old newer
misses_on name names old new newer is more = record {
  before = name ∷ more.before;
  name = more.name;
  after = more.after;
  names_are = ap (λ l. name ∷ l) more.names_are;
  asked = more.asked ∙ asked-joined (asked_and_had name) old new
      (map asked_and_had more.before ++ asked_and_missed more.name ∷ []) is;
}

-- if the first file couldn't be read or opened, no other was asked for
pub misses_first : (name : List ℕ) (names : List (List ℕ)) (old new : List AskedName)
    → new ≡ old ++ asked_and_missed name ∷ []
    → MissesOne (name ∷ names) old new
misses_first name names old new is = record { before = []; name = name; after = names; names_are = refl; asked = is }

-- if one file couldn't be read or opened, and the answer is its fault, as `?` returns it, `AreAskedFor` holds
pub misses_so : {T : Type 0} (names : List (List ℕ)) (old new : List AskedName) (answer : Result T FileFault)
    (fault : FileFault) → IsErrAnd answer (λ made. made ≡ fault) → MissesOne names old new
    → AreAskedFor names old new (is_ok answer)
misses_so names old new answer fault made misses =
    subst (λ a. AreAskedFor names old new (is_ok a)) (sym (err_is answer fault made)) misses
