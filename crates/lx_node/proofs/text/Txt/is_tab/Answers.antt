use Rattle.std.proofs.Common.{◌≡◌, ◌∙◌, sym, ap, refl, ℕ, Bool, true, false, List, [], ◌∷◌, encode_utf8_all}
use Rattle.std.specs.Str.{bytes_eq, chars}
use lib.Utf8.{encode}
use Rattle.std.proofs.lemmas.Slice.Eq.{bytes_eq-Decides}
use Rattle.std.proofs.lemmas.Bool.Decides.{Decides-eqb}
use Rattle.lx_node.specs.OfKind.{is_tab_text}
use Rattle.lx_node.proofs.text.Txt.is_tab.Goals as goal

-- two tests that pass together are one
same_test : (a b : Bool) → (a ≡ true → b ≡ true) → (b ≡ true → a ≡ true) → a ≡ b
same_test true true f g = refl
same_test true false f g = sym (f refl)
same_test false true f g = g refl
same_test false false f g = refl

tab_text : (cs : List ℕ) → is_tab_text cs ≡ true → cs ≡ 9 ∷ []
unfolding is_tab_text
tab_text [] e = absurd (cc)
tab_text (c ∷ []) e = ap (λ x. x ∷ []) ((Decides-eqb c 9).0 e)
tab_text (c ∷ d ∷ cs) e = absurd (cc)

is_tab_text-tab : is_tab_text (9 ∷ []) ≡ true
unfolding is_tab_text
is_tab_text-tab = refl

chars-tab : chars (9 ∷ []) ≡ 9 ∷ []
unfolding chars
chars-tab = refl

encode_utf8_all-tab : encode_utf8_all (9 ∷ []) ≡ 9 ∷ []
unfolding encode
encode_utf8_all-tab = refl

-- its bytes are those of a tab exactly where its characters are
tab_by_bytes : (cs bs : List ℕ) → bs ≡ encode_utf8_all cs → chars bs ≡ cs → bytes_eq bs (9 ∷ []) ≡ is_tab_text cs
tab_by_bytes cs bs encoded decoded =
    same_test _ _ (λ e. ap is_tab_text (sym decoded ∙ ap chars ((bytes_eq-Decides bs (9 ∷ [])).0 e) ∙ chars-tab) ∙ is_tab_text-tab)
    (λ e. (bytes_eq-Decides bs (9 ∷ [])).1 (encoded ∙ ap encode_utf8_all (tab_text cs e) ∙ encode_utf8_all-tab))

pub returns : goal.returns
returns c = c.eq.ensures ∙ tab_by_bytes c.args.self.now c.as_str.result.now c.as_str.ensures.bytes c.as_str.ensures.text
