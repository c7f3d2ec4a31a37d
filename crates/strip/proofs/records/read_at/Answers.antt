-- What stands at a place: the definition's tests in turn.
use Rattle.std.proofs.Common.{refl, ◌∙◌}
use Rattle.strip.proofs.RecordLaws.{headed, read_end, read_cut, read_rest, read_malformed, read_missing, read_long, read_record, no_shape, no_content, content_is, broken_by}
use Rattle.strip.proofs.records.read_at.Goals as goal

pub returns-then-s-at : goal.returns-then-s-at
returns-then-s-at c = read_end _ _ c.if-s-at.true

pub returns-then-s-at-2 : goal.returns-then-s-at-2
returns-then-s-at-2 c = read_cut _ _ c.if-s-at.false c.if-s-at-2.true

pub returns-then-rest-ne0 : goal.returns-then-rest-ne0
returns-then-rest-ne0 c =
    let h = headed c.if-s-at.false c.if-s-at-2.false c.at-w.ensures refl c.i-i.ensures c.j-j.ensures in
    read_rest h c.rest.ensures c.if-rest-ne0.true

pub returns-in_err-kind : goal.returns-in_err-kind
returns-in_err-kind c =
    let h = headed c.if-s-at.false c.if-s-at-2.false c.at-w.ensures c.kind.ensures c.i-i.ensures c.j-j.ensures in
    broken_by _ c.from_residual.ensures.0 (read_malformed h c.rest.ensures c.if-rest-ne0.false (no_shape _ _ _ c.in_err-kind.ensures))

pub returns-in_err-content : goal.returns-in_err-content
returns-in_err-content c =
    let h = headed c.if-s-at.false c.if-s-at-2.false c.at-w.ensures (c.in_ok-kind.ensures ∙ c.kind.ensures) c.i-i.ensures c.j-j.ensures in
    broken_by _ c.from_residual-in_err-content.ensures.0
    (read_malformed h c.rest.ensures c.if-rest-ne0.false (no_content _ _ _ _ _ c.content.ensures c.ok_or.ensures.value c.in_err-content.was))

pub returns-in_err-next : goal.returns-in_err-next
returns-in_err-next c =
    let h = headed c.if-s-at.false c.if-s-at-2.false c.at-w.ensures (c.in_ok-kind.ensures ∙ c.kind.ensures) c.i-i.ensures c.j-j.ensures in
    let k = content_is _ _ _ _ _ c.content.ensures c.ok_or.ensures.value c.in_ok-content.was in
    broken_by _ c.from_residual-in_err-next.ensures.0 (read_missing h c.rest.ensures c.if-rest-ne0.false k.0 c.in_err-next.ensures)

pub returns-then-s-next : goal.returns-then-s-next
returns-then-s-next c =
    let h = headed c.if-s-at.false c.if-s-at-2.false c.at-w.ensures (c.in_ok-kind.ensures ∙ c.kind.ensures) c.i-i.ensures c.j-j.ensures in
    let k = content_is _ _ _ _ _ c.content.ensures c.ok_or.ensures.value c.in_ok-content.was in
    let q = c.in_ok-next.ensures in
    read_long h c.rest.ensures c.if-rest-ne0.false k.0 q.0 q.1 c.if-s-next.true

pub returns : goal.returns
returns c =
    let h = headed c.if-s-at.false c.if-s-at-2.false c.at-w.ensures (c.in_ok-kind.ensures ∙ c.kind.ensures) c.i-i.ensures c.j-j.ensures in
    let k = content_is _ _ _ _ _ c.content.ensures c.ok_or.ensures.value c.in_ok-content.was in
    let q = c.in_ok-next.ensures in
    read_record h c.rest.ensures c.if-rest-ne0.false k.0 q.0 q.1 c.if-s-next.false
