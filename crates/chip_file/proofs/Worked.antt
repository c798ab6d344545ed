-- Serves GraphText.antt, ChipsText.antt, DropsText.antt, GuessText.antt, ScheduleText.antt, TraceText.antt,
-- LogText.antt.
-- Worked texts, computed on the definitions.
use Rattle.chip_file.proofs.Names.{◌≡◌, ℕ, List, [], ◌∷◌, take, codes, None, Some, refl, true, false, is_utf8, chars}
use Rattle.chip_file.proofs.Names.{serde_json_on_literals, csv_on_literals, field_at, Edge, standard, Multigraph}
use Rattle.chip_file.proofs.Names.{LogRow, Step, json_of, file_of_text, graph_of_text, chips_of_text, chips_text_fault}
use Rattle.chip_file.proofs.Names.{drops_of_text, drops_text_fault, traces_of_text, trace_text_fault}
use Rattle.std.specs.Fmt.{digits}
use Rattle.chip_file.specs.ChipsText.{text_of_chips}
use Rattle.chip_file.specs.GuessText.{guess_of_text, guess_text_fault}
use Rattle.chip_file.specs.ScheduleText.{schedule_of_text, schedule_text_fault}
use Rattle.chip_file.specs.LogText.{log_of_text, log_text_fault, stream}
use Rattle.chip_link.specs.declared.event.Event.TheVariants as event
use Rattle.chip_link.specs.declared.trace.TraceRow.TheVariants as row
use Rattle.chip_log.specs.declared.row.Step.TheVariants as step
use Rattle.chip_file.specs.declared.fault.FileFault.TheVariants as fault

abbrev edge : ℕ → ℕ → ℕ → Edge
edge tail head mult = record { tail = tail; head = head; mult = mult }

abbrev triangle_text : List ℕ
triangle_text = codes "{\"edges\":[[0,1,1],[0,2,1],[1,0,1],[1,2,1]],\"sink\":2,\"version\":1,\"vertices\":3}"

abbrev triangle_graph : Multigraph
triangle_graph = record { vertices = 3; sink = 2; edges = edge 0 1 1 ∷ edge 0 2 1 ∷ edge 1 0 1 ∷ edge 1 2 1 ∷ [] }

-- the triangle; and the last of two members of one name counts; and
-- its first 20 bytes are no JSON; and a member more and a row of two numbers are another shape
graphs :
    (graph_of_text triangle_text ≡ Some triangle_graph)
    × (graph_of_text (codes " {\"sink\":7,\"version\":1, \"vertices\":1,\"edges\":[],\"sink\":0}\n")
    ≡ Some (record { vertices = 1; sink = 0; edges = [] }))
    × (json_of (take 20 triangle_text) ≡ None)
    × (file_of_text (codes "{\"edges\":[],\"sink\":0,\"version\":1,\"vertices\":1,\"x\":0}") ≡ None)
    × (file_of_text (codes "{\"edges\":[[0,1]],\"sink\":1,\"version\":1,\"vertices\":2}") ≡ None)
unfolding serde_json_on_literals is_utf8 chars
graphs = (refl, refl, refl, refl, refl)

-- four chips on the first of three vertices, with leading zeros, quotes, another line's end and none at the end; and
-- the refusals of rows
chips :
    (chips_of_text 3 (codes "vertex,chips\n00,04") ≡ Some (4 ∷ 0 ∷ 0 ∷ []))
    × (chips_of_text 3 (codes "vertex,\"chips\"\r\n\r\n\"2\",7\r\n0,4\r\n") ≡ Some (4 ∷ 0 ∷ 7 ∷ []))
    × (chips_text_fault 3 [] ≡ Some fault.Header)
    × (chips_text_fault 3 (codes "vertex,chips\n0,4\n0,1\n") ≡ Some (fault.Repeated 1))
    × (chips_text_fault 3 (codes "vertex,chips\n0,-1\n") ≡ Some (fault.Number 0))
    × (chips_text_fault 3 (codes "vertex,chips\n3,1\n") ≡ Some (fault.Vertex 0))
    × (chips_text_fault 3 (codes "vertex,chips\n0\n") ≡ Some (fault.Row 0))
    × (chips_text_fault 2 (codes "vertex,chips\n0,1099511627776\n1,1\n") ≡ Some fault.Total)
unfolding csv_on_literals field_at
chips = (refl, refl, refl, refl, refl, refl, refl, refl)

-- four chips on the first of three vertices and ten on the last, as they are written
written : text_of_chips (4 ∷ 0 ∷ 10 ∷ []) ≡ codes "vertex,chips\n0,4\n1,0\n2,10\n"
unfolding digits
written = refl

-- drops in the order of the file, two of them on one vertex, and more chips than a game holds; and
-- the refusals of drops: each before those after it
drops :
    (drops_of_text 3 (codes "vertex,chips\n2,1\n0,1099511627777\n2,0\n")
    ≡ Some ((2, 1) ∷ (0, 1099511627777) ∷ (2, 0) ∷ []))
    × (drops_of_text 3 (codes "vertex,chips") ≡ Some [])
    × (drops_text_fault 3 (codes "vertex,fired\n0,1\n") ≡ Some fault.Header)
    × (drops_text_fault 3 (codes "vertex,chips\n0,1\nx,1,1\n") ≡ Some (fault.Row 1))
    × (drops_text_fault 3 (codes "vertex,chips\n3,x\n") ≡ Some (fault.Number 0))
    × (drops_text_fault 3 (codes "vertex,chips\n0,1\n0,1\n3,1\n") ≡ Some (fault.Vertex 2))
unfolding csv_on_literals field_at
drops = (refl, refl, refl, refl, refl, refl)

-- a guess: vertex 1 is not named, and a count may be the greatest number of 64 bits; and
-- the refusals of a guess: each before those after it
guess :
    (guess_of_text 3 (codes "vertex,fired\n2,18446744073709551615\n0,2\n")
    ≡ Some (2 ∷ 0 ∷ 18446744073709551615 ∷ []))
    × (guess_text_fault 3 (codes "vertex,chips\n0,1\n") ≡ Some fault.Header)
    × (guess_text_fault 3 (codes "vertex,fired\n0\n") ≡ Some (fault.Row 0))
    × (guess_text_fault 3 (codes "vertex,fired\n3,18446744073709551616\n") ≡ Some (fault.Number 0))
    × (guess_text_fault 3 (codes "vertex,fired\n3,1\n3,1\n") ≡ Some (fault.Vertex 0))
    × (guess_text_fault 3 (codes "vertex,fired\n1,0\n0,1\n1,0\n") ≡ Some (fault.Repeated 2))
unfolding csv_on_literals field_at
guess = (refl, refl, refl, refl, refl, refl)

-- the schedule of sealed half way, on the triangle; and the other kinds, at the last root edge and the last vertex; and
-- the refusals of a schedule's rows: each before those after it
schedules :
    (schedule_of_text triangle_graph
    (codes "event,at,count\nseal,1,0\ntake,4,0\nfire,0,2\nclear,0,0\nclaim,0,0\nput,0,0\nclear,1,0\nclaim,1,0\nhalt,0,0\n")
    ≡ Some (event.Seal 1 ∷ event.Take 4 ∷ event.Fire 0 2 ∷ event.Clear 0 ∷ event.Claim 0 ∷ event.Put 0 ∷ event.Clear 1
    ∷ event.Claim 1 ∷ event.Halt 0 ∷ []))
    × (schedule_of_text triangle_graph (codes "event,at,count\nack,6,0\nsettle,6,0\nread,2,7")
    ≡ Some (event.Ack 6 ∷ event.Settle 6 ∷ event.Read 2 ∷ []))
    × (schedule_text_fault triangle_graph (codes "vertex,kind,edge,count\n") ≡ Some fault.Header)
    × (schedule_text_fault triangle_graph (codes "event,at,count\nseal,1,0\nspin,9\n") ≡ Some (fault.Row 1))
    × (schedule_text_fault triangle_graph (codes "event,at,count\nTake,x,0\n") ≡ Some (fault.Kind 0))
    × (schedule_text_fault triangle_graph (codes "event,at,count\ntake,7,x\n") ≡ Some (fault.Number 0))
    × (schedule_text_fault triangle_graph (codes "event,at,count\ntake,7,0\n") ≡ Some (fault.Vertex 0))
    × (schedule_text_fault triangle_graph (codes "event,at,count\ntake,3,0\nhalt,3,0\n") ≡ Some (fault.Vertex 1))
unfolding csv_on_literals field_at
schedules = (refl, refl, refl, refl, refl, refl, refl, refl)

-- the recorded runs of the small triangle, the rows of vertex 1 first and those of the others mixed; and nothing recorded; and
-- the refusals of rows of recorded runs
traces :
    (traces_of_text triangle_graph
    (codes "vertex,kind,edge,count\n1,take,0,2\n1,fire,0,1\n0,take,4,4\n2,take,1,2\n0,fire,9,2\n2,take,3,1\n0,take,2,1\n")
    ≡ Some ((row.Take 4 4 ∷ row.Fire 2 ∷ row.Take 2 1 ∷ []) ∷ (row.Take 0 2 ∷ row.Fire 1 ∷ [])
    ∷ (row.Take 1 2 ∷ row.Take 3 1 ∷ []) ∷ []))
    × (traces_of_text triangle_graph (codes "vertex,kind,edge,count") ≡ Some ([] ∷ [] ∷ [] ∷ []))
    × (trace_text_fault triangle_graph (codes "vertex,kind,edge,count\nx,put,0,0\n") ≡ Some (fault.Kind 0))
    × (trace_text_fault triangle_graph (codes "vertex,kind,edge,count\n3,fire,,1\n") ≡ Some (fault.Number 0))
    × (trace_text_fault triangle_graph (codes "vertex,kind,edge,count\n0,take,6,1\n0,take,7,1\n") ≡ Some (fault.Vertex 1))
    × (trace_text_fault triangle_graph (codes "vertex,kind,edge,count\n3,fire,0,1\n") ≡ Some (fault.Vertex 0))
unfolding csv_on_literals field_at
traces = (refl, refl, refl, refl, refl, refl)

abbrev did : ℕ → Step → LogRow
did process step = record { process = process; step = step }

-- the log of a detector of two processes, which have not their least numbers; and nothing logged; and
-- the refusals of a log's rows: each before those after it
logs :
    (log_of_text standard (codes "process,kind,channel\n2,active,9\n2,send,3\n0,receive,3\n2,passive,9\n0,tell,5\n2,hear,5\n2,over,9\n")
    ≡ Some (
      did 2 step.Active ∷ did 2 (step.Out (stream false 3)) ∷ did 0 (step.In (stream false 3)) ∷ did 2 step.Passive
          ∷ did 0 (step.Out (stream true 5)) ∷ did 2 (step.In (stream true 5)) ∷ did 2 step.Over ∷ [],
      record { processes = 3; channels = 6 },
    ))
    × (log_of_text standard (codes "process,kind,channel") ≡ Some ([], record { processes = 0; channels = 0 }))
    × (log_text_fault standard (codes "process,kind\n0,over\n") ≡ Some fault.Header)
    × (log_text_fault standard (codes "process,kind,channel\nx,claim\n") ≡ Some (fault.Row 0))
    × (log_text_fault standard (codes "process,kind,channel\nx,claim,0\n") ≡ Some (fault.Kind 0))
    × (log_text_fault standard (codes "process,kind,channel\n8192,send,\n") ≡ Some (fault.Number 0))
    × (log_text_fault standard (codes "process,kind,channel\n8191,tell,131071\n8192,over,0\n") ≡ Some (fault.Vertex 1))
    × (log_text_fault standard (codes "process,kind,channel\n0,tell,131072\n") ≡ Some (fault.Vertex 0))
    × (log_text_fault standard (codes "process,kind,channel\n0,active,0\n0,send,1\n1,send,1\n") ≡ Some (fault.End 2))
    × (log_text_fault standard (codes "process,kind,channel\n0,hear,1\n0,tell,1\n0,send,1\n") ≡ Some (fault.Passive 2))
    × (log_text_fault standard (codes "process,kind,channel\n0,over,0\n0,active,0\n") ≡ Some (fault.Woken 1))
unfolding csv_on_literals field_at
logs = (refl, refl, refl, refl, refl, refl, refl, refl, refl, refl, refl)
