-- The walk goes over to the next line or plane where the last one is gone over, and gives the next index.
use Rattle.std.proofs.Common.{ap, sym, ◌∙◌, arith, FitsSigned, w64, rules, slice_get, drop, Some, ◌++◌}
use Rattle.std.proofs.lemmas.Int.{to_z-of_z}
use Rattle.dpl_domain.specs.Ranks.{last_of}
use Rattle.dpl_domain.specs.Cursor.{terms_of}
use Rattle.dpl_domain.specs.Progression.{line_of, plane_of, space_of}
use Rattle.dpl_domain.proofs.CursorLemmas.{IsReady, IsAtLine, IsAtLine-to_plane, IsReady-to_line, rest-next, IsPadded-cursor}
use Rattle.dpl_domain.proofs.walk.Cursor.next.Goals as goal
use Rattle.dpl_domain.proofs.walk.Cursor.next.Goals.{Joined-self-eq0, then-self-eq0, then-self-eq0-2+else-self-eq0-3, else-self-eq0-2, else-self-eq0}

-- after the joins the cursor stands at a line with something left
ready : (c : Joined-self-eq0) → IsReady c.if-self-eq0.self-inside c.args.self.now
ready c =
    elim c.if-self-eq0.branch [
      | then-self-eq0 w ↦
          let line : IsAtLine w.if-self-eq0-2.self-inside c.args.self.now =
          elim w.if-self-eq0-2.branch [
            | then-self-eq0-2+else-self-eq0-3 u ↦
                let fits : FitsSigned w64 u.take-self-inside.result = search rules in
                let is = simp to_z-of_z at u.self-inside-is in
                rw (is, ← c.self.view_is)
                (IsAtLine-to_plane c.self.inside u.take-self-inside.result u.take-self-inside.new.self c.self.invariant w.if-self-eq0.true u.if-self-eq0-2.true (omega arith) u.take-self-inside.ensures.next u.take-self-inside.ensures.rest)
            | else-self-eq0-2 u ↦
                rw u.self-inside-is (record { same = c.self.view_is; cursor = c.self.invariant; none = w.if-self-eq0.true; some = omega arith })
          ] in
          let fits : FitsSigned w64 w.take-self-inside-then-self-eq0.result = search rules in
          let is = simp to_z-of_z at w.self-inside-is in
          rw is
          (IsReady-to_line w.if-self-eq0-2.self-inside c.args.self.now w.take-self-inside-then-self-eq0.result w.take-self-inside-then-self-eq0.new.self line w.take-self-inside-then-self-eq0.ensures.next w.take-self-inside-then-self-eq0.ensures.rest)
      | else-self-eq0 w ↦
          rw w.self-inside-is (record { same = c.self.view_is; cursor = c.self.invariant; some = omega arith })
    ]

pub padded-requires : goal.padded-requires
padded-requires c =
    let now = ready (goal.at.padded-requires c).Joined-self-eq0 in
    let outer_fits : FitsSigned w64 c.if-self-eq0.self-inside.outer_at = search rules in
    let middle_fits : FitsSigned w64 c.if-self-eq0.self-inside.middle_at = search rules in
    rw (to_z-of_z w64 c.if-self-eq0.self-inside.outer_at outer_fits, to_z-of_z w64 c.if-self-eq0.self-inside.middle_at middle_fits)
    (IsPadded-cursor c.if-self-eq0.self-inside now.cursor)

pub invariant_of-self : goal.invariant_of-self
invariant_of-self c =
    let now = (ready (goal.at.invariant_of-self c).Joined-self-eq0).cursor in
    record {
      from_one = now.from_one;
      to_three = now.to_three;
      outer_unused = now.outer_unused;
      outer_terms = now.outer_terms;
      middle_unused = now.middle_unused;
      middle_terms = now.middle_terms;
      lines_terms = now.lines_terms;
      lines_come = now.lines_come;
      line_comes = now.line_comes;
      line_of_plane = now.line_of_plane;
    }

pub returns-clause-next : goal.returns-clause-next
returns-clause-next c =
    let at = c.if-self-eq0.self-inside in
    let now = ready (goal.at.returns-clause-next c).Joined-self-eq0 in
    let outer_fits : FitsSigned w64 c.if-self-eq0.self-inside.outer_at = search rules in
    let middle_fits : FitsSigned w64 c.if-self-eq0.self-inside.middle_at = search rules in
    let inner_fits : FitsSigned w64 c.take-inner_at.result = search rules in
    let is = simp to_z-of_z at c.padded.ensures in
    ap Some (is ∙ ap (last_of at.rank at.outer_at at.middle_at) c.take-inner_at.ensures.next)
    ∙ sym (ap (λ v. slice_get v 0) (sym now.same ∙ rest-next at now.some))

pub returns-clause-rest : goal.returns-clause-rest
returns-clause-rest c =
    let at = c.if-self-eq0.self-inside in
    let now = ready (goal.at.returns-clause-rest c).Joined-self-eq0 in
    ap (λ is. line_of at.rank at.outer_at at.middle_at is ++ plane_of at.rank at.outer_at (terms_of at.middle) (terms_of at.line) ++ space_of at.rank (terms_of at.outer) (terms_of at.lines) (terms_of at.line)) c.take-inner_at.ensures.rest
    ∙ sym (ap (drop 1) (sym now.same ∙ rest-next at now.some))
