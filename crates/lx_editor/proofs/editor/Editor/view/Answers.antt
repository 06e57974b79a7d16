use Rattle.std.proofs.Common.{◌≡◌, ◌∙◌, IfOk, subst}
use Rattle.std.proofs.lemmas.Result.{IfOk-weaker}
use Rattle.lx_host.specs.Hosts.{shape_of}
use Rattle.lx_host.specs.Html.{first_tree, html_of}
use Rattle.lx_render.specs.Render.{render}
use Rattle.lx_editor.specs.Editor.{Editor}
use Rattle.lx_editor.specs.Standing.{editor_of}
use Rattle.lx_editor.proofs.Updated.{printed}
use Rattle.lx_editor.proofs.editor.Editor.view.Goals as goal

pub returns : goal.returns
returns c =
    let e : Editor = editor_of c.self.inside in
    record {
      html =
          subst (λ (d : Editor). IfOk c.print_html.result (λ html. html ≡ html_of (render d.tree))) c.self.view_is
          (IfOk-weaker c.print_html.result (λ html. html ≡ html_of (first_tree (shape_of e.view.hosts)))
          (λ html. html ≡ html_of (render e.tree))
          (λ html is. is ∙ printed e.tree e.view c.self.invariant.valid.state.alone c.self.invariant.valid.shown)
          c.print_html.ensures.html);
    }
