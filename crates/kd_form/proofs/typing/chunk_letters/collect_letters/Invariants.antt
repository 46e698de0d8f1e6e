use Rattle.kd_form.proofs.Prelude.{◌≡◌, ◌≤◌, take, All, IsTrue, is_text_byte, array_vec_len, typed_letters}
use Rattle.kd_form.proofs.typing.chunk_letters.collect_letters.Given as goal

-- the bytes so far are allowed, and their letters are collected
abbrev pub invariant-loop-place : goal.invariant-loop-place
invariant-loop-place l = record {
  allowed : All (λ b. IsTrue (is_text_byte b)) (take l.place l.bytes);
  letters : l.letters.items ≡ typed_letters (take l.place l.bytes);
  room : array_vec_len l.letters ≤ l.place;
}
