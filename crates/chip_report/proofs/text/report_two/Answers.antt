use Rattle.chip_report.proofs.text.report_two.Goals as goal

pub returns : goal.returns
returns c = rw (
  c.into_bytes.ensures.value,
  c.in_ok-push_str.ensures.bytes,
  c.in_ok-push_list-2.ensures,
  c.in_ok-push_list.ensures,
  c.deref.ensures.value,
  c.deref-2.ensures.value,
  c.in_ok-text.ensures,
)
