use Rattle.std.proofs.Common.{ℕ, ◌≡◌, List, Result, Ok, Err, Vec, Global, IfOk, sym, ◌∙◌, subst}
use Rattle.lx_trees.specs.Siblings.{NoRepeats}
use Rattle.lx_forest.specs.Loose.{AreLoose}
use Rattle.lx_links.proofs.Stood.{stood_by}
use Rattle.lx_links.proofs.Swept.{is_among-keys, NoRepeats-keys}
use Rattle.lx_links.proofs.links.Links.keys.Goals as goal

of_keys : {E : Type 0} (r : Result (Vec ℕ Global) E) (ks : List ℕ) (P : List ℕ → Type 0) → IfOk r (λ keys. keys.items ≡ ks) → P ks
    → IfOk r (λ keys. P keys.items)
of_keys (Ok keys) ks P e h = subst P (sym e) h
of_keys (Err e) ks P h p = tt

pub returns-in-Some-clause-loose : goal.returns-in-Some-clause-loose
returns-in-Some-clause-loose c =
    let h = stood_by _ c.self.inside.stands _ c.in-Some.store c.self.view_is c.in-Some.is in
    of_keys _ _ (AreLoose c.args.self.now) c.keys.ensures (λ q there top other. is_among-keys _ _ q h ∙ there)

pub returns-in-Some-clause-once : goal.returns-in-Some-clause-once
returns-in-Some-clause-once c = of_keys _ _ NoRepeats c.keys.ensures (NoRepeats-keys c.in-Some.store)
