-- Files in a map, by their names.
use Rattle.std.proofs.Common.{◌≡◌, ◌≢◌, ◌↔◌, ◌∙◌, ℕ, ◌+◌, Bool, true, false, cond, List, [], ◌++◌, length, Option, String, Vec, ap, arith, refl, subst, sym}
use Rattle.std.proofs.Common.{length-append, option_map, string_bytes}
use Rattle.std.specs.Prelude.{codes, decimal, Some, None, Result, Ok, Err, IfErr, IfSome, IsSome}
use Rattle.std.specs.BTreeMap.{BTreeMap, UpdatesBy, get_by_text}
use Rattle.std.specs.Ordering.{nat_cmp}
use Rattle.std.specs.Cmp.Lexicographic.{slice_cmp}
use Rattle.std.specs.String.{string_cmp}
use Rattle.std.specs.Str.{bytes_eq}
use Rattle.std.proofs.lemmas.Map.Text.{btree_map_updates_text}
use Rattle.std.proofs.lemmas.Bool.{false_from_ne_true}
use Rattle.std.proofs.lemmas.Map.{update_other}
use Rattle.std.proofs.lemmas.Slice.Eq.{bytes_eq-Decides}
use Rattle.kd_new_file.specs.NewFiles.{AddsFile, FilesByName, IsWhyUnnamed, files_in, part_name, with_content}
use Rattle.kd_new_file.specs.declared.new_file_fault.NewFileFault.{NewFileFault}
use Rattle.kd_new_file.specs.declared.new_file_fault.NewFileFault.TheVariants.{Device, Taken}
use mathlib.Core.Path.{fun_ext}

chosen : {X Y : Type 0} (f : X → Y) (b : Bool) (one other : Option X)
    → option_map f (cond b one other) ≡ cond b (option_map f one) (option_map f other)
chosen f true one other = refl
chosen f false one other = refl

-- a map that is updated under a name holds other files under this name alone
pub updated : {A B : Type 0} (name : List ℕ) (old new : BTreeMap (String A) (Vec ℕ B)) (content : Option (Vec ℕ B))
    → UpdatesBy string_cmp (λ key. slice_cmp nat_cmp name (string_bytes key)) old new content
    → files_in new ≡ with_content (files_in old) name (option_map (λ bytes. bytes.items) content)
updated name old new content updates = fun_ext (λ other.
    ap (option_map (λ bytes. bytes.items)) (btree_map_updates_text name old new content updates other)
    ∙ chosen (λ bytes. bytes.items) (bytes_eq name other) content (get_by_text old other))

-- no other name of a file is its own name
pub part_name-apart : (name : List ℕ) (number : ℕ) → part_name name number ≢ name
part_name-apart name number same =
    let longer : length name + (length (codes ".part") + length (decimal number)) ≡ length name =
    sym (ap (λ more. length name + more) (length-append (codes ".part") (decimal number)))
    ∙ sym (length-append name (codes ".part" ++ decimal number)) ∙ ap length same in
    omega (arith, longer)

-- a file's content under one name doesn't change whether there is a file with another name
same_elsewhere : (files : FilesByName) (other name : List ℕ) (content : Option (List ℕ)) → other ≢ name
    → with_content files other content name ≡ files name
same_elsewhere files other name content apart =
    update_other bytes_eq files other content name
    (false_from_ne_true (bytes_eq other name) (λ same. apart ((bytes_eq-Decides other name).0 same)))

-- why a file has no name, from why a name couldn't be given among the files `held`
why_unnamed : (held before : Option FilesByName) (other name : List ℕ) (done : Result (Unit {0}) NewFileFault)
    (fault : NewFileFault) → done ≡ Err fault
    → IfSome held (λ known. (done ≡ Err Taken) ↔ IsSome (known name))
    → IfSome held (λ known. done ≢ Err Device)
    → AddsFile before held other (Some []) → other ≢ name → IsWhyUnnamed before name fault
why_unnamed held None other name done fault is taken device adds apart = tt
why_unnamed held (Some files) other name done fault is taken device adds apart =
    let known : FilesByName = with_content files other (Some []) in
    let is_taken : (done ≡ Err Taken) ↔ IsSome (known name) =
    subst (λ h. IfSome h (λ seen. (done ≡ Err Taken) ↔ IsSome (seen name))) adds.1 taken in
    let no_device : done ≢ Err Device = subst (λ h. IfSome h (λ seen. done ≢ Err Device)) adds.1 device in
    let same : known name ≡ files name = same_elsewhere files other name (Some []) apart in (
      (
        λ so. subst IsSome same (is_taken.0 (is ∙ ap Err so)),
        λ there. let so : Err fault ≡ done = sym is in let told = is_taken.1 (subst IsSome (sym same) there) in cc,
      ),
      λ so. no_device (is ∙ ap Err so),
    )

pub unnamed : (held : Option FilesByName) (other name : List ℕ) (done : Result (Unit {0}) NewFileFault)
    → IfSome held (λ known. (done ≡ Err Taken) ↔ IsSome (known name))
    → IfSome held (λ known. done ≢ Err Device)
    → IfErr done (λ fault. (before : Option FilesByName) → AddsFile before held other (Some []) → other ≢ name
    → IsWhyUnnamed before name fault)
unnamed held other name (Ok _) taken device = tt
unnamed held other name (Err fault) taken device =
    λ before adds apart. why_unnamed held before other name (Err fault) fault refl taken device adds apart
