use Rattle.std.proofs.Common.{◌≡◌, ◌++◌, ap, refl, sym, ◌∙◌, arith, is_some}
use Rattle.std.proofs.lemmas.Result.{on_ok_weaker}
use Rattle.lx_host.specs.Below.{below_of}
use Rattle.lx_host.specs.Hosts.{shape_of}
use Rattle.lx_host.specs.Html.{text_html, inside_html, html_of}
use Rattle.lx_host.proofs.Stood.{is_some_in}
use Rattle.lx_host.proofs.Listed.{one_found, listing_starts, passed, listing_goes_on, listing_ends}
use Rattle.lx_host.proofs.Printed.{void_printed, full_printed}
use Rattle.lx_host.proofs.grove.Grove.+print.Goals as goal
use Rattle.lx_host.proofs.grove.Grove.+print.Goals.{print-in-Some-text+in_ok-push_text-in-Some-text, print-in-None+in_ok-print_children-in-None}

pub print-returns-in_default : goal.print-returns-in_default
print-returns-in_default t c =
    absurd (grind (arith, is_some_in c.host.result c.args.self.now.hosts c.args.id c.host.ensures.host, ap is_some c.in_default.is, c.requires.there))

pub print-returns-then-is_void : goal.print-returns-then-is_void
print-returns-then-is_void t c =
    void_printed c.args.page.now (one_found c.args.id c.host.ensures.ordered c.host.ensures.host c.in-Some.is) (sym c.if-is_void.ensures)
    (rw c.items.ensures.items at c.in_ok-open.ensures)

pub print-returns : goal.print-returns
print-returns t c =
    let below = html_of (shape_of (below_of c.args.self.now.hosts c.args.id)) in
    let one = one_found c.args.id c.host.ensures.ordered c.host.ensures.host c.in-Some.is in
    let inside : c.match-host-2.page ≡ c.open.new.self ++ inside_html c.in-Some.host.now.text below = elim c.match-host-2.branch [
      | print-in-Some-text+in_ok-push_text-in-Some-text w ↦
          rw w.in-Some-text.is (w.page-is ∙ w.in_ok-push_text-in-Some-text.ensures ∙ ap (λ t. c.open.new.self ++ text_html t) w.as_str.ensures.text)
      | print-in-None+in_ok-print_children-in-None w ↦ rw w.in-None.is (w.page-is ∙ w.in_ok-print_children-in-None.ensures)
    ] in
    on_ok_weaker c.close.result
    (full_printed c.args.page.now one (sym c.if-is_void.ensures) (rw c.items.ensures.items at c.in_ok-open.ensures) inside c.in_ok-push_ending.ensures)
    c.close.ensures

pub print_children-loop-at-init : goal.print_children-loop-at-init
print_children-loop-at-init t c =
    listing_starts c.args.self.now.hosts c.args.id c.first-at.result c.args.page.now c.first-at.ensures.ordered c.first-at.ensures.first

pub print_children-print-requires : goal.print_children-print-requires
print_children-print-requires t c =
    let step = passed c.loop-at.invariant c.in-Some.is refl in
    (omega (arith, step.smaller), step.there)

pub print_children-loop-at-smaller : goal.print_children-loop-at-smaller
print_children-loop-at-smaller t c = (passed c.loop-at.invariant c.in-Some.is c.next-at.ensures.next).fewer

pub print_children-loop-at-preserved : goal.print_children-loop-at-preserved
print_children-loop-at-preserved t c =
    listing_goes_on c.print.new.page c.loop-at.invariant (passed c.loop-at.invariant c.in-Some.is c.next-at.ensures.next) c.in_ok-print.ensures

pub print_children-returns : goal.print_children-returns
print_children-returns t c = listing_ends c.loop-at.invariant c.in_default.is
