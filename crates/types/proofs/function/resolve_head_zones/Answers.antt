use Rattle.types.specs.declared.names.form.AnnotationPlace.TheVariants as place
use Rattle.types.specs.names.Note.{zones_of, more_zones}
use Rattle.types.proofs.names.Giving.{gives_from}
use Rattle.types.proofs.function.resolve_head_zones.Goals as goal

pub returns : goal.returns
returns c =
    let items = c.args.world.now.items.now in
    let scope = c.args.scope.now in
    let reads = zones_of items scope place.Head c.args.notes.now.reads in
    let writes = more_zones items scope place.Head reads c.args.notes.now.writes in
    gives_from (more_zones items scope place.Head writes) c.resolve_zones.result c.as_slice-3.result.now c.args.notes.now.adds c.as_slice-3.ensures
    (c.resolve_zones.ensures writes
    (gives_from (more_zones items scope place.Head reads) c.resolve_zones-writes.result c.as_slice-2.result.now c.args.notes.now.writes c.as_slice-2.ensures
    (c.resolve_zones-writes.ensures reads
    (gives_from (zones_of items scope place.Head) c.resolve_first_zones-reads.result c.as_slice.result.now c.args.notes.now.reads
    c.as_slice.ensures c.resolve_first_zones-reads.ensures))))
