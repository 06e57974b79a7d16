-- The host of a key, as a host tree finds it.
use Rattle.std.proofs.Common.{◌≡◌, ◌∙◌, ℕ, [], ◌∷◌, None, Some, refl, ap, sym, length, arith, append-nil, Option}
use Rattle.std.proofs.lemmas.Bool.Decides.{eqb_tells}
use Rattle.lx_trees.specs.Trees.{Trees, nil, tree}
use Rattle.lx_trees.specs.NamedTrees as named
use Rattle.lx_host.specs.Hosts.{Host}
use Rattle.lx_host.specs.Lookups.{host_of, lesser}
use Rattle.lx_reconcile.specs.Allowed.{hosts_of}
use Rattle.lx_reconcile.proofs.Shown.{key_in, hosts_of-none, length-hosts_of}

pub none_shows : (k : ℕ) (t : Trees Host) → named.count key_in k t ≡ 0 → host_of k t ≡ None
none_shows k nil e = refl
none_shows k (tree h b r) e = grind (arith, e, none_shows k b, none_shows k r)

lesser-None : (o : Option ℕ) → lesser o None ≡ o
lesser-None None = refl
lesser-None (Some n) = refl

pub one_shows : (k i : ℕ) (t : Trees Host) → hosts_of k t ≡ i ∷ [] → host_of k t ≡ Some i
one_shows k i nil e = absurd (cc)
one_shows k i (tree h b r) e =
    let one : named.count key_in k (tree h b r) ≡ 1 = sym (length-hosts_of k (tree h b r)) ∙ ap length e in
    grind (
      arith,
      one,
      eqb_tells h.face.key k,
      hosts_of-none k b,
      hosts_of-none k r,
      append-nil (hosts_of k b),
      none_shows k b,
      none_shows k r,
      lesser-None (host_of k b),
      one_shows k i b,
      one_shows k i r,
    )
