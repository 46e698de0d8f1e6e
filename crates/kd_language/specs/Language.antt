-- The languages in which texts are written. A text with words is a pair: the English text and the German text.
use Rattle.std.specs.Prelude.{ℕ, List}
use Rattle.kd_language.specs.declared.language.Language.{Language}
use Rattle.kd_language.specs.declared.language.Language.TheVariants.{English, German}

abbrev pub in_language : Language → List ℕ → List ℕ → List ℕ
in_language English english german = english
in_language German english german = german

-- the English or the German text of the pair `text`, as `language` says
abbrev pub text_in : Language → record { now : List ℕ } × record { now : List ℕ } → List ℕ
text_in language text = in_language language text.0.now text.1.now
