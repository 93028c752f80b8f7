use Rattle.std.proofs.Common.{◌++◌, ◌∷◌, [], ◌∙◌, ℕ, List, Option, Err, ap}
use Rattle.std.proofs.lemmas.Result.{err_from_is_err_and}
use Rattle.semantics.specs.Text.{field, kind_text, region_text, sources_text}
use Rattle.semantics.specs.Graph.{Node}
use Rattle.sink.proofs.Sent.{appends_then, sends_from, sends_more, sends_less, sends_other, sends_same}
use Rattle.graph_file.proofs.writing.send_node.Goals as goal

pub returns-in_err-send_region : goal.returns-in_err-send_region
returns-in_err-send_region g c =
    let p = err_from_is_err_and c.from_residual.result c.from_residual.ensures.1 in
    let t1 : List ℕ = region_text c.args.node.now.region in
    let t2 : List ℕ = field (kind_text c.args.node.now.kind) in
    let t3 : List ℕ = sources_text c.args.node.now.sources in
    let t4 : List ℕ = 10 ∷ [] in
    let w0 : Option (List ℕ) = g.W.Write.contents c.args.writer.now in
    let w1 : Option (List ℕ) = g.W.Write.contents c.send_region.new.writer in
    rw p.1 (sends_less p.0 w0 w1 ((t1 ++ t2) ++ t3) t4
    (sends_less p.0 w0 w1 (t1 ++ t2) t3 (sends_less p.0 w0 w1 t1 t2 (sends_other c.in_err-send_region.field-0.0 p.0 w0 w1 t1
    (sends_same (Err c.in_err-send_region.field-0.0) w0 w1 _ t1 (ap (λ (n : Node (List ℕ)). region_text n.region) c.node.view_is)
    c.in_err-send_region.ensures)))))

pub returns-in_err-send_kind : goal.returns-in_err-send_kind
returns-in_err-send_kind g c =
    let p = err_from_is_err_and c.from_residual-in_err-send_kind.result c.from_residual-in_err-send_kind.ensures.1 in
    let t1 : List ℕ = region_text c.args.node.now.region in
    let t2 : List ℕ = field (kind_text c.args.node.now.kind) in
    let t3 : List ℕ = sources_text c.args.node.now.sources in
    let t4 : List ℕ = 10 ∷ [] in
    let w0 : Option (List ℕ) = g.W.Write.contents c.args.writer.now in
    let w1 : Option (List ℕ) = g.W.Write.contents c.send_region.new.writer in
    let w2 : Option (List ℕ) = g.W.Write.contents c.send_kind.new.writer in
    rw p.1 (sends_less p.0 w0 w2 ((t1 ++ t2) ++ t3) t4
    (sends_less p.0 w0 w2 (t1 ++ t2) t3 (sends_more (Err p.0) w0 w1 w2 t1 t2 (sends_from c.send_region.result w0 w1 t1 c.in_ok-send_region.was
    (sends_same c.send_region.result w0 w1 _ t1 (ap (λ (n : Node (List ℕ)). region_text n.region) c.node.view_is) c.send_region.ensures))
    (sends_other c.in_err-send_kind.field-0.0 p.0 w1 w2 t2 (sends_same (Err c.in_err-send_kind.field-0.0) w1 w2 _ t2
    (ap (λ (n : Node (List ℕ)). field (kind_text n.kind)) c.node.view_is) c.in_err-send_kind.ensures)))))

pub returns-in_err-send_sources : goal.returns-in_err-send_sources
returns-in_err-send_sources g c =
    let p = err_from_is_err_and c.from_residual-in_err-send_sources.result c.from_residual-in_err-send_sources.ensures.1 in
    let t1 : List ℕ = region_text c.args.node.now.region in
    let t2 : List ℕ = field (kind_text c.args.node.now.kind) in
    let t3 : List ℕ = sources_text c.args.node.now.sources in
    let t4 : List ℕ = 10 ∷ [] in
    let w0 : Option (List ℕ) = g.W.Write.contents c.args.writer.now in
    let w1 : Option (List ℕ) = g.W.Write.contents c.send_region.new.writer in
    let w2 : Option (List ℕ) = g.W.Write.contents c.send_kind.new.writer in
    let w3 : Option (List ℕ) = g.W.Write.contents c.send_sources.new.writer in
    rw p.1 (sends_less p.0 w0 w3 ((t1 ++ t2) ++ t3) t4
    (sends_more (Err p.0) w0 w2 w3 (t1 ++ t2) t3
    (appends_then w0 w1 w2 t1 t2 (sends_from c.send_region.result w0 w1 t1 c.in_ok-send_region.was
    (sends_same c.send_region.result w0 w1 _ t1 (ap (λ (n : Node (List ℕ)). region_text n.region) c.node.view_is) c.send_region.ensures))
    (sends_from c.send_kind.result w1 w2 t2 c.in_ok-send_kind.was
    (sends_same c.send_kind.result w1 w2 _ t2 (ap (λ (n : Node (List ℕ)). field (kind_text n.kind)) c.node.view_is) c.send_kind.ensures)))
    (sends_other c.in_err-send_sources.field-0.0 p.0 w2 w3 t3 (sends_same (Err c.in_err-send_sources.field-0.0) w2 w3 _ t3
    (ap sources_text (c.deref.ensures.value ∙ ap (λ (n : Node (List ℕ)). n.sources) c.node.view_is)) c.in_err-send_sources.ensures))))

pub returns : goal.returns
returns g c =
    let t1 : List ℕ = region_text c.args.node.now.region in
    let t2 : List ℕ = field (kind_text c.args.node.now.kind) in
    let t3 : List ℕ = sources_text c.args.node.now.sources in
    let t4 : List ℕ = 10 ∷ [] in
    let w0 : Option (List ℕ) = g.W.Write.contents c.args.writer.now in
    let w1 : Option (List ℕ) = g.W.Write.contents c.send_region.new.writer in
    let w2 : Option (List ℕ) = g.W.Write.contents c.send_kind.new.writer in
    let w3 : Option (List ℕ) = g.W.Write.contents c.send_sources.new.writer in
    let w4 : Option (List ℕ) = g.W.Write.contents c.send.new.writer in
    sends_more c.send.result w0 w3 w4 ((t1 ++ t2) ++ t3) t4
    (appends_then w0 w2 w3 (t1 ++ t2) t3 (appends_then w0 w1 w2 t1 t2 (sends_from c.send_region.result w0 w1 t1 c.in_ok-send_region.was
    (sends_same c.send_region.result w0 w1 _ t1 (ap (λ (n : Node (List ℕ)). region_text n.region) c.node.view_is) c.send_region.ensures))
    (sends_from c.send_kind.result w1 w2 t2 c.in_ok-send_kind.was
    (sends_same c.send_kind.result w1 w2 _ t2 (ap (λ (n : Node (List ℕ)). field (kind_text n.kind)) c.node.view_is) c.send_kind.ensures)))
    (sends_from c.send_sources.result w2 w3 t3 c.in_ok-send_sources.was
    (sends_same c.send_sources.result w2 w3 _ t3 (ap sources_text (c.deref.ensures.value ∙ ap (λ (n : Node (List ℕ)). n.sources) c.node.view_is))
    c.send_sources.ensures))) c.send.ensures
