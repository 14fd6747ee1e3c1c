-- A worked picture as SVG, typed in by hand.
use Rattle.std.specs.Prelude.{ℕ, ◌+◌, true, false, List, [], ◌∷◌, ◌++◌, codes, refl}
use Rattle.std.specs.Fmt.{digits}
use Rattle.smx_draw.specs.SvgFrame.{svg_head}
use Rattle.smx_draw.specs.SvgText.{IsSvgOf}
use Rattle.smx_draw.specs.WorkedViews.{ip, shown, table}
use Rattle.smx_draw.specs.declared.svg.block.Area.{Area}
use Rattle.smx_draw.specs.declared.svg.under.Stream.{Stream}

-- a place, with a different number in each field
abbrev pub at : ℕ → Area
at n =
    record { left = n + 11; top = n + 22; right = n + 33; bottom = n + 44; bend = n + 55; lane = n + 66 }

-- a stream, and a closed one
abbrev pub streams : List Stream
streams =
    record { driver = ip; minor = 1; is_closed = false } ∷ record { driver = ip; minor = 3; is_closed = true } ∷ []

-- and the frames
abbrev pub up_to_frames : List ℕ
up_to_frames =
    svg_head 640 480
    ++ (codes "<path class=\"frame mux\" d=\"M111 122H133V144H111Z\"/>\n"
    ++ codes "<path class=\"frame leaf\" d=\"M211 222H233V244H211Z\"/>\n")

-- and the links
abbrev pub up_to_ways : List ℕ
up_to_ways =
    up_to_frames
    ++ (codes "<g class=\"way ordinary link-1\"><title>link 1 ordinary by ip 3</title><path class=\"halo\" "
    ++ codes "d=\"M311 322V355H366V344H333\"/><path d=\"M311 322V355H366V344H333\"/></g>\n"
    ++ codes "<g class=\"way persistent link-2\"><title>link 2 persistent by ip 2</title><path "
    ++ codes "class=\"halo\" d=\"M411 422V455H466V444H433\"/><path d=\"M411 422V455H466V444H433\"/></g>\n")

-- and a stream, and a closed one
abbrev pub up_to_columns : List ℕ
up_to_columns =
    up_to_ways
    ++ (codes "<g class=\"stream stream-ip-1\"><path d=\"M511 522H533V544H511Z\"/><text x=\"511\" "
    ++ codes "y=\"522\" dx=\"6\" dy=\"11\">ip 1</text></g>\n"
    ++ codes "<g class=\"closed\"><path d=\"M611 622H633V644H611Z\"/><text x=\"611\" y=\"622\" "
    ++ codes "dx=\"6\" dy=\"11\">ip 3 closed</text></g>\n")

-- and the gauges of queues
abbrev pub up_to_gauges : List ℕ
up_to_gauges =
    up_to_columns
    ++ (codes "<svg class=\"gauge\" x=\"711\" y=\"722\" width=\"22\" height=\"14\" viewBox=\"0 0 "
    ++ codes "8 14\" preserveAspectRatio=\"none\"><path class=\"bytes\" d=\"M0 0H8V14H0Z\"/><path "
    ++ codes "class=\"low\" d=\"M0 12H3V14H0Z\"/></svg>\n"
    ++ codes "<svg class=\"gauge\" x=\"711\" y=\"722\" width=\"22\" height=\"14\" viewBox=\"0 0 "
    ++ codes "8 14\" preserveAspectRatio=\"none\"><path class=\"bytes\" d=\"M0 0H2V14H0Z\"/><path "
    ++ codes "class=\"low\" d=\"M0 12H3V14H0Z\"/></svg>\n"
    ++ codes "<svg class=\"gauge\" x=\"711\" y=\"722\" width=\"22\" height=\"14\" viewBox=\"0 0 "
    ++ codes "64 14\" preserveAspectRatio=\"none\"><path class=\"bytes\" d=\"M0 0H1V14H0Z\"/><path "
    ++ codes "class=\"low\" d=\"M0 12H9V14H0Z\"/></svg>\n"
    ++ codes "<svg class=\"gauge\" x=\"711\" y=\"722\" width=\"22\" height=\"14\" viewBox=\"0 0 "
    ++ codes "64 14\" preserveAspectRatio=\"none\"><path class=\"bytes\" d=\"M0 0H0V14H0Z\"/><path "
    ++ codes "class=\"low\" d=\"M0 12H9V14H0Z\"/></svg>\n"
    ++ codes "<svg class=\"gauge\" x=\"711\" y=\"722\" width=\"22\" height=\"14\" viewBox=\"0 0 "
    ++ codes "0 14\" preserveAspectRatio=\"none\"><path class=\"bytes\" d=\"M0 0H2V14H0Z\"/><path "
    ++ codes "class=\"low\" d=\"M0 12H0V14H0Z\"/></svg>\n")

-- and the rows: of the drivers, the links, a stream whose device has hung up, a route, a descriptor, a binding, the
-- queues, and full queues
abbrev pub up_to_rows : List ℕ
up_to_rows =
    up_to_gauges
    ++ (codes "<g class=\"mux driver-ip\"><path d=\"M1011 1022H1033V1044H1011Z\"/><text x=\"1011\" "
    ++ codes "y=\"1022\" dx=\"6\" dy=\"11\">ip mux, minors 4, longest 16, high 8, low 3</text></g>"
    ++ codes "\n"
    ++ codes "<g class=\"leaf driver-eth\"><path d=\"M1111 1122H1133V1144H1111Z\"/><text x=\"1111\" "
    ++ codes "y=\"1122\" dx=\"6\" dy=\"11\">eth leaf, minors 2, longest 1024, high 64, low 9</text></g>\n"
    ++ codes "<g class=\"ordinary link-1\"><path d=\"M1211 1222H1233V1244H1211Z\"/><text x=\"1211\" "
    ++ codes "y=\"1222\" dx=\"6\" dy=\"11\">link 1 ordinary by ip 3</text></g>\n"
    ++ codes "<g class=\"persistent link-2\"><path d=\"M1311 1322H1333V1344H1311Z\"/><text x=\"1311\" "
    ++ codes "y=\"1322\" dx=\"6\" dy=\"11\">link 2 persistent by ip 2</text></g>\n"
    ++ codes "<g class=\"hung stream-eth-1\"><path d=\"M1411 1422H1433V1444H1411Z\"/><text x=\"1411\" "
    ++ codes "y=\"1422\" dx=\"6\" dy=\"11\">hung up</text></g>\n"
    ++ codes "<g class=\"route route-ip-88\"><path d=\"M1511 1522H1533V1544H1511Z\"/><text x=\"1511\" "
    ++ codes "y=\"1522\" dx=\"6\" dy=\"11\">route 88 by link 2</text></g>\n"
    ++ codes "<g class=\"descriptor fd-5-6\"><path d=\"M1611 1622H1633V1644H1611Z\"/><text x=\"1611\" "
    ++ codes "y=\"1622\" dx=\"6\" dy=\"11\">process 5 fd 6</text></g>\n"
    ++ codes "<g class=\"bind bind-ip-77\"><path d=\"M1711 1722H1733V1744H1711Z\"/><text x=\"1711\" "
    ++ codes "y=\"1722\" dx=\"6\" dy=\"11\">bound to 77</text></g>\n"
    ++ codes "<g class=\"message msg-21\"><path d=\"M1811 1822H1833V1844H1811Z\"/><text x=\"1811\" "
    ++ codes "y=\"1822\" dx=\"6\" dy=\"11\">message 21 to 77, 3 B</text></g>\n"
    ++ codes "<g class=\"message msg-22\"><path d=\"M1811 1822H1833V1844H1811Z\"/><text x=\"1811\" "
    ++ codes "y=\"1822\" dx=\"6\" dy=\"11\">message 22 to 78, 5 B</text></g>\n"
    ++ codes "<g class=\"queue queue-ip-1-w\"><path d=\"M1811 1822H1833V1844H1811Z\"/><text x=\"1811\" "
    ++ codes "y=\"1822\" dx=\"6\" dy=\"11\">write 8 of 8, low 3</text></g>\n"
    ++ codes "<g class=\"message msg-23\"><path d=\"M1811 1822H1833V1844H1811Z\"/><text x=\"1811\" "
    ++ codes "y=\"1822\" dx=\"6\" dy=\"11\">message 23 to 79, 1 B</text></g>\n"
    ++ codes "<g class=\"message msg-24\"><path d=\"M1811 1822H1833V1844H1811Z\"/><text x=\"1811\" "
    ++ codes "y=\"1822\" dx=\"6\" dy=\"11\">message 24 to 80, 1 B</text></g>\n"
    ++ codes "<g class=\"queue queue-ip-1-r\"><path d=\"M1811 1822H1833V1844H1811Z\"/><text x=\"1811\" "
    ++ codes "y=\"1822\" dx=\"6\" dy=\"11\">read 2 of 8, low 3</text></g>\n"
    ++ codes "<g class=\"message msg-25\"><path d=\"M1811 1822H1833V1844H1811Z\"/><text x=\"1811\" "
    ++ codes "y=\"1822\" dx=\"6\" dy=\"11\">message 25 to 81, 1 B</text></g>\n"
    ++ codes "<g class=\"queue queue-eth-0-w\"><path d=\"M1811 1822H1833V1844H1811Z\"/><text x=\"1811\" "
    ++ codes "y=\"1822\" dx=\"6\" dy=\"11\">write 1 of 64, low 9</text></g>\n"
    ++ codes "<g class=\"message msg-26\"><path d=\"M1811 1822H1833V1844H1811Z\"/><text x=\"1811\" "
    ++ codes "y=\"1822\" dx=\"6\" dy=\"11\">message 26 to 82, 0 B</text></g>\n"
    ++ codes "<g class=\"queue queue-eth-1-w\"><path d=\"M1811 1822H1833V1844H1811Z\"/><text x=\"1811\" "
    ++ codes "y=\"1822\" dx=\"6\" dy=\"11\">write 0 of 64, low 9</text></g>\n"
    ++ codes "<g class=\"message msg-27\"><path d=\"M1811 1822H1833V1844H1811Z\"/><text x=\"1811\" "
    ++ codes "y=\"1822\" dx=\"6\" dy=\"11\">message 27 to 83, 2 B</text></g>\n"
    ++ codes "<g class=\"queue queue-tap-1-w\"><path d=\"M1811 1822H1833V1844H1811Z\"/><text x=\"1811\" "
    ++ codes "y=\"1822\" dx=\"6\" dy=\"11\">write 2 of 0, low 0</text></g>\n"
    ++ codes "<g class=\"full queue-ip-1-w\"><path d=\"M1911 1922H1933V1944H1911Z\"/><text x=\"1911\" "
    ++ codes "y=\"1922\" dx=\"6\" dy=\"11\">write queue full</text></g>\n"
    ++ codes "<g class=\"full queue-eth-0-r\"><path d=\"M2011 2022H2033V2044H2011Z\"/><text x=\"2011\" "
    ++ codes "y=\"2022\" dx=\"6\" dy=\"11\">read queue full</text></g>\n")

-- so the text is a picture of the view
pub is_a_picture : IsSvgOf table shown (
    up_to_rows ++ codes "<text x=\"24\" y=\"44\">next link 3, next message 28</text>\n</svg>\n"
    )
unfolding digits
is_a_picture =
    record {
      width = 640;
      height = 480;
      streams = streams;
      behind_frames = up_to_frames;
      behind_ways = up_to_ways;
      behind_streams = up_to_columns;
      behind_gauges = up_to_gauges;
      behind_rows = up_to_rows;
      frames = (at 100, (at 200, refl));
      ways = (at 300, (at 400, refl));
      columns = (at 500, (at 600, refl));
      gauges = (at 700, (at 700, (at 700, (at 700, (at 700, (at 700, (at 700, (at 700, (at 700, (at 700, (at 700, (at 700, refl))))))))))));
      rows = (
        at 1000,
        (
          at 1100,
          (
            at 1200,
            (
              at 1300,
              (
                at 1400,
                (
                  at 1500,
                  (
                    at 1600,
                    (
                      at 1700,
                      (
                        at 1800,
                        (
                          at 1800,
                          (
                            at 1800,
                            (
                              at 1800,
                              (at 1800, (at 1800, (at 1800, (at 1800, (at 1800, (at 1800, (at 1800, (at 1800, (at 1900, (at 2000, refl)))))))))),
                            ),
                          ),
                        ),
                      ),
                    ),
                  ),
                ),
              ),
            ),
          ),
        ),
      );
      ends = refl;
    }
