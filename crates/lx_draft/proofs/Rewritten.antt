-- So many edits at once are the same as one after another.
use Rattle.std.proofs.Common.{◌≡◌, ◌∙◌, ℕ, ◌+◌, ap, arith}
use Rattle.lx_draft.specs.Working.{Working}
use Rattle.lx_draft.specs.Steps.{rewritten}

same_counts : (w : Working) (a b c d e g : ℕ) → a ≡ d → b ≡ e → c ≡ g
    → ◌≡◌ {A = Working} (record w { counted = a; edits = b; written = c }) (record w { counted = d; edits = e; written = g })
same_counts w a b c d e g h i j =
    ap (λ n. record w { counted = n; edits = b; written = c }) h
    ∙ ap (λ n. record w { counted = d; edits = n; written = c }) i
    ∙ ap (λ n. record w { counted = d; edits = e; written = n }) j

pub rewritten-none : (w : Working) → rewritten 0 0 w ≡ w
rewritten-none w =
    same_counts w (w.counted + 0) (w.edits + 0) (w.written + 0) w.counted w.edits w.written (omega arith) (omega arith) (omega arith)

pub rewritten-more : (nodes characters n m : ℕ) (w : Working) → rewritten n m (rewritten nodes characters w) ≡ rewritten (nodes + n) (characters + m) w
rewritten-more nodes characters n m w =
    same_counts w (w.counted + nodes + n) (w.edits + nodes + n) (w.written + characters + m) (w.counted + (nodes + n)) (w.edits + (nodes + n))
    (w.written + (characters + m)) (omega arith) (omega arith) (omega arith)
