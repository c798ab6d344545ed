use Rattle.chip_file.proofs.JsonNames.{sym}
use Rattle.chip_file.proofs.Standing.{take_version, take_vertices, take_sink, take_edges, take_other}
use Rattle.chip_file.proofs.graph_text.file.Parts.take.Goals as goal

pub returns-in_ok-self-in-version-clause-value : goal.returns-in_ok-self-in-version-clause-value
returns-in_ok-self-in-version-clause-value c =
    let read = c.in_ok-self-in-version.ensures.value in
    (read.0, read.1, take_version _ read.0 c.args.self.now _ c.in-version.is read.2)

pub returns-in_ok-self-in-vertices-clause-value : goal.returns-in_ok-self-in-vertices-clause-value
returns-in_ok-self-in-vertices-clause-value c =
    let read = c.in_ok-self-in-vertices.ensures.value in
    (read.0, read.1, take_vertices _ read.0 c.args.self.now _ c.in-vertices.is read.2)

pub returns-in_ok-self-in-sink-clause-value : goal.returns-in_ok-self-in-sink-clause-value
returns-in_ok-self-in-sink-clause-value c =
    let read = c.in_ok-self-in-sink.ensures.value in
    (read.0, read.1, take_sink _ read.0 c.args.self.now _ c.in-sink.is read.2)

pub returns-in_ok-self-in-edges-clause-value : goal.returns-in_ok-self-in-edges-clause-value
returns-in_ok-self-in-edges-clause-value c =
    let read = c.in_ok-self-in-edges.ensures.value in
    (read.0, read.1, take_edges _ read.0 c.args.self.now _ c.in-edges.is read.2)

pub returns-in_ok-pass-in_default-clause-value : goal.returns-in_ok-pass-in_default-clause-value
returns-in_ok-pass-in_default-clause-value c =
    let read = c.in_ok-pass-in_default.ensures.value in (
      read.0,
      read.1,
      take_other _ read.0 c.args.self.now (record {
        edges = λ is. c.in_default.not-edges (sym is);
        sink = λ is. c.in_default.not-sink (sym is);
        version = λ is. c.in_default.not-version (sym is);
        vertices = λ is. c.in_default.not-vertices (sym is);
      }),
    )
