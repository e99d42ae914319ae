-- Another stamp, or another detail.
use Rattle.std.proofs.Common.{◌≡◌, ◌∙◌, subst, sym}
use Rattle.std.proofs.lemmas.Result.{err_from_is_err_and}
use Rattle.rx_fields.specs.declared.stamp.Stamp.{Stamp}
use Rattle.rx_response.specs.Response.{response_head}
use Rattle.rx_show.specs.ResponseFile.{IsResponse}
use Rattle.rx_switch.specs.JoinParts.{join_inputs, stamp_in}
use Rattle.rx_switch.specs.JoinRefused.IsNotJoined.{other_detail, other_stamp}
use Rattle.rx_switch.proofs.JoinFaults.{detail_differs, file_is, not_true}
use Rattle.rx_switch.proofs.joined_files.checked_file.Goals as goal

pub returns-in_err-file-clause-refused : goal.returns-in_err-file-clause-refused
returns-in_err-file-clause-refused c g plans t next is first =
    let p = err_from_is_err_and c.from_residual.result c.from_residual.ensures.1 in
    rw (p.1, p.2) (c.in_err-file.ensures.refused g c.args.stamp plans t next is)

pub returns-then-not-is_stamp-clause-refused : goal.returns-then-not-is_stamp-clause-refused
returns-then-not-is_stamp-clause-refused c g plans t next is first =
    let own = c.in_ok-file.file in
    let asked = c.args.batch.now in
    other_stamp c.args.number (join_inputs c.args.stamp plans asked) t (stamp_in own.head) own.details next
    (file_is t (response_head asked.head (stamp_in own.head)) own.details c.args.text.now is c.in_ok-file.ensures.read)
    first
    (λ e. not_true c.is_stamp.result c.if-not-is_stamp.true c.is_stamp.ensures (c.stamp_in.ensures ∙ e))

pub returns-in-Some-clause-refused : goal.returns-in-Some-clause-refused
returns-in-Some-clause-refused c g plans t next is first =
    let own = c.in_ok-file.file in
    let asked = c.args.batch.now in
    let same : stamp_in own.head ≡ c.args.stamp = sym c.stamp_in.ensures ∙ c.is_stamp.ensures.0 c.if-not-is_stamp.false in
    other_detail c.args.number c.in-Some.place (join_inputs c.args.stamp plans asked) t own.details next
    (subst (λ (stamp : Stamp). IsResponse t.response (response_head asked.head stamp) own.details) same
    (file_is t (response_head asked.head (stamp_in own.head)) own.details c.args.text.now is c.in_ok-file.ensures.read))
    (detail_differs _ _ _ _ c.in-Some.place c.as_slice.ensures c.as_slice-2.ensures c.in-Some.ensures.some)
