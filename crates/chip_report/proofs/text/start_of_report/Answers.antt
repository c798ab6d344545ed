use Rattle.chip_report.proofs.text.start_of_report.Goals as goal

pub returns : goal.returns
returns c = rw (
  c.in_ok-push_list-3.ensures,
  c.in_ok-push_list-2.ensures,
  c.in_ok-push_bool.ensures,
  c.in_ok-push_list.ensures,
  c.deref.ensures.value,
  c.deref-2.ensures.value,
  c.deref-3.ensures.value,
  c.is_closed.ensures,
  c.new-text.ensures.bytes,
)
