use Rattle.sea_schema.proofs.schema.Schema.tables_with_link.Goals as goal

pub returns : goal.returns
returns c =
    rw (c.in_ok-add_end-2.ensures, c.in_ok-add_end.ensures, c.in_ok-tables.ensures, c.end_towards-first.ensures, c.end_towards-second.ensures, c.as_str-to.ensures, c.as_str-to_name.ensures, c.as_str.ensures, ← c.self.view_is)
